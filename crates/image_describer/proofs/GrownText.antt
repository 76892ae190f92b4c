-- A renumbered description has a text.
use Rattle.image_describer.proofs.Names.{nat_tests, ℕ, Bool, true, false, List, [], arith, All, All-cons, All-contains, All-nil, IsGeometry, NumberRange}
use Rattle.image_describer.proofs.Names.{object_count, Description, NodeEntry, PageEntry, ProcessEntry, whole_ranges, all_from, IsMovedNode, IsMovedPage}
use Rattle.image_describer.proofs.Names.{IsMovedProcess, IsRenumbered, NamesPages, moved, CanBeSpelled, IsWide, SpellsNode, SpellsPage, SpellsProcess}
use Rattle.image_describer.proofs.Names.{SpellsRange, zip_all}
use Rattle.std.proofs.Common.{◌<◌, ◌≤◌, if◌then◌else◌, ◌∷◌}
use Rattle.std.specs.Prelude.{◌==◌, ◌&&◌}
use Rattle.image_describer.proofs.Moved.{moved_wide, spelled_moved, wide_moved}

either_spelled : (b : Bool) (rs ss : List NumberRange) → All SpellsRange rs → All SpellsRange ss → All SpellsRange (if b then rs else ss)
either_spelled true rs ss one other = one
either_spelled false rs ss one other = other

module _ (d e : Description) (same : IsRenumbered d e) (limits : IsGeometry e.geometry) (few : object_count d.geometry ≤ 8192)
    (pages : NamesPages d.geometry e.geometry d) (spelled : CanBeSpelled d) where
  abbrev at : ℕ → ℕ
  at = moved d.geometry e.geometry

  wide : (n : ℕ) → IsWide n → IsWide (at n)
  wide n is = moved_wide d.geometry e.geometry n few limits.most_nodes is

  whole_spelled : All SpellsRange (whole_ranges e.geometry)
  whole_spelled =
      All-cons SpellsRange (record { first = 0; count = e.geometry.nodes })
      (record { first = e.geometry.nodes; count = e.geometry.pages } ∷ [])
      (omega arith, omega (arith, limits.most_nodes))
      (All-cons SpellsRange (record { first = e.geometry.nodes; count = e.geometry.pages }) []
      (omega (arith, limits.most_nodes), omega (arith, limits.most_pages)) (All-nil SpellsRange))

  process_spelled : (p q : ProcessEntry) → IsMovedProcess at p q → SpellsProcess p → SpellsProcess q
  process_spelled p q moves is = grind (arith, nat_tests, wide_moved, wide, spelled_moved)

  node_spelled : (m n : NodeEntry) → IsMovedNode at m n → SpellsNode m → SpellsNode n
  node_spelled m n moves is = (rw moves.number is.0, rw moves.owner is.1, rw moves.slots (spelled_moved at wide m.slots.items is.2))

  abbrev Good : PageEntry → Type 0
  Good p = SpellsPage p × (at p.number < object_count e.geometry)

  page_spelled : (p q : PageEntry) → IsMovedPage at p q → Good p → SpellsPage q
  page_spelled p q moves good = grind (arith, nat_tests)

  pub grown_spelled : CanBeSpelled e
  grown_spelled = record {
    geometry = (omega (arith, limits.most_nodes), omega (arith, limits.most_pages), omega (arith, limits.most_log));
    layout = rw same.layout spelled.layout;
    age = rw same.age spelled.age;
    ranges = rw same.ranges (either_spelled (d.geometry.nodes == e.geometry.nodes && d.geometry.pages == e.geometry.pages) d.ranges.items
        (whole_ranges e.geometry) spelled.ranges whole_spelled);
    banks = rw same.banks spelled.banks;
    processes = zip_all (IsMovedProcess at) SpellsProcess SpellsProcess process_spelled d.processes.items e.processes.items same.processes
        spelled.processes;
    nodes = zip_all (IsMovedNode at) SpellsNode SpellsNode node_spelled d.nodes.items e.nodes.items same.nodes spelled.nodes;
    pages = zip_all (IsMovedPage at) Good SpellsPage page_spelled d.pages.items e.pages.items same.pages
        (all_from Good d.pages.items (λ p there. (
          All-contains SpellsPage d.pages.items p spelled.pages there,
          All-contains (λ (q : PageEntry). at q.number < object_count e.geometry) d.pages.items p pages there,
        )));
  }
