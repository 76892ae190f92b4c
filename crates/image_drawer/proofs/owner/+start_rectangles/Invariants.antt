use Rattle.image_drawer.proofs.owner.+start_rectangles.Given as goal

abbrev pub decreases-start_rectangles : goal.decreases-start_rectangles
decreases-start_rectangles g l = l.most
