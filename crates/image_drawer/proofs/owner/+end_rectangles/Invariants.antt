use Rattle.image_drawer.proofs.owner.+end_rectangles.Given as goal

abbrev pub decreases-end_rectangles : goal.decreases-end_rectangles
decreases-end_rectangles g l = l.most
