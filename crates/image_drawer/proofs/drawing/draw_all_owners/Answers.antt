use Rattle.image_drawer.proofs.Names.{flat_map, joined, owner_line, err_from_is_err_and}
use Rattle.image_drawer.proofs.Texts.{flat_map-four, first_fails, fourth_written, second_fails, third_fails}
use Rattle.image_drawer.proofs.drawing.draw_all_owners.Goals as goal

pub returns-in_err-draw_owners : goal.returns-in_err-draw_owners
returns-in_err-draw_owners g c =
    let p = err_from_is_err_and c.from_residual.result c.from_residual.ensures.1 in
    rw (p.1, p.2) (first_fails
    (flat_map (owner_line c.args.objects.now) (flat_map (λ b. joined b.owner b.number) c.args.description.now.banks.items))
    (flat_map (owner_line c.args.objects.now) (flat_map (λ p. joined p.owner p.root) c.args.description.now.processes.items))
    (flat_map (owner_line c.args.objects.now) (flat_map (λ n. joined n.owner n.number) c.args.description.now.nodes.items))
    (flat_map (owner_line c.args.objects.now) (flat_map (λ p. joined p.owner p.number) c.args.description.now.pages.items)) _
    (flat_map-four (owner_line c.args.objects.now) (flat_map (λ b. joined b.owner b.number) c.args.description.now.banks.items)
    (flat_map (λ p. joined p.owner p.root) c.args.description.now.processes.items)
    (flat_map (λ n. joined n.owner n.number) c.args.description.now.nodes.items)
    (flat_map (λ p. joined p.owner p.number) c.args.description.now.pages.items)) _ _ _
    (rw c.as_slice.ensures.value at c.in_err-draw_owners.ensures))

pub returns-in_err-draw_owners-2 : goal.returns-in_err-draw_owners-2
returns-in_err-draw_owners-2 g c =
    let p = err_from_is_err_and c.from_residual-in_err-draw_owners-2.result c.from_residual-in_err-draw_owners-2.ensures.1 in
    rw (p.1, p.2) (second_fails
    (flat_map (owner_line c.args.objects.now) (flat_map (λ b. joined b.owner b.number) c.args.description.now.banks.items))
    (flat_map (owner_line c.args.objects.now) (flat_map (λ p. joined p.owner p.root) c.args.description.now.processes.items))
    (flat_map (owner_line c.args.objects.now) (flat_map (λ n. joined n.owner n.number) c.args.description.now.nodes.items))
    (flat_map (owner_line c.args.objects.now) (flat_map (λ p. joined p.owner p.number) c.args.description.now.pages.items)) _
    (flat_map-four (owner_line c.args.objects.now) (flat_map (λ b. joined b.owner b.number) c.args.description.now.banks.items)
    (flat_map (λ p. joined p.owner p.root) c.args.description.now.processes.items)
    (flat_map (λ n. joined n.owner n.number) c.args.description.now.nodes.items)
    (flat_map (λ p. joined p.owner p.number) c.args.description.now.pages.items)) _ _ _ _
    (rw c.as_slice.ensures.value at c.in_ok-draw_owners.ensures)
    (rw c.as_slice-2.ensures.value at c.in_err-draw_owners-2.ensures))

pub returns-in_err-draw_owners-3 : goal.returns-in_err-draw_owners-3
returns-in_err-draw_owners-3 g c =
    let p = err_from_is_err_and c.from_residual-in_err-draw_owners-3.result c.from_residual-in_err-draw_owners-3.ensures.1 in
    rw (p.1, p.2) (third_fails
    (flat_map (owner_line c.args.objects.now) (flat_map (λ b. joined b.owner b.number) c.args.description.now.banks.items))
    (flat_map (owner_line c.args.objects.now) (flat_map (λ p. joined p.owner p.root) c.args.description.now.processes.items))
    (flat_map (owner_line c.args.objects.now) (flat_map (λ n. joined n.owner n.number) c.args.description.now.nodes.items))
    (flat_map (owner_line c.args.objects.now) (flat_map (λ p. joined p.owner p.number) c.args.description.now.pages.items)) _
    (flat_map-four (owner_line c.args.objects.now) (flat_map (λ b. joined b.owner b.number) c.args.description.now.banks.items)
    (flat_map (λ p. joined p.owner p.root) c.args.description.now.processes.items)
    (flat_map (λ n. joined n.owner n.number) c.args.description.now.nodes.items)
    (flat_map (λ p. joined p.owner p.number) c.args.description.now.pages.items)) _ _ _ _ _
    (rw c.as_slice.ensures.value at c.in_ok-draw_owners.ensures)
    (rw c.as_slice-2.ensures.value at c.in_ok-draw_owners-2.ensures) (rw c.as_slice-3.ensures.value at c.in_err-draw_owners-3.ensures))

pub returns : goal.returns
returns g c =
    fourth_written (flat_map (owner_line c.args.objects.now) (flat_map (λ b. joined b.owner b.number) c.args.description.now.banks.items))
    (flat_map (owner_line c.args.objects.now) (flat_map (λ p. joined p.owner p.root) c.args.description.now.processes.items))
    (flat_map (owner_line c.args.objects.now) (flat_map (λ n. joined n.owner n.number) c.args.description.now.nodes.items))
    (flat_map (owner_line c.args.objects.now) (flat_map (λ p. joined p.owner p.number) c.args.description.now.pages.items)) _
    (flat_map-four (owner_line c.args.objects.now) (flat_map (λ b. joined b.owner b.number) c.args.description.now.banks.items)
    (flat_map (λ p. joined p.owner p.root) c.args.description.now.processes.items)
    (flat_map (λ n. joined n.owner n.number) c.args.description.now.nodes.items)
    (flat_map (λ p. joined p.owner p.number) c.args.description.now.pages.items)) _ _ _ _ _ _
    (rw c.as_slice.ensures.value at c.in_ok-draw_owners.ensures)
    (rw c.as_slice-2.ensures.value at c.in_ok-draw_owners-2.ensures) (rw c.as_slice-3.ensures.value at c.in_ok-draw_owners-3.ensures)
    (rw c.as_slice-4.ensures.value at c.draw_owners-4.ensures)
