use Rattle.description.proofs.Names.{[], table_view, refl, FitAll, FitsAt, IsList, whole_ranges, IsBank, IsNode, IsPage, IsProcess, IsRange, Age, Banks, Layout}
use Rattle.description.proofs.Names.{NodeList, PageList, Processes, Ranges, take, keys_of}
use Rattle.description.proofs.Keyed.{with_default}
use Rattle.description.proofs.FirstFlaws.{entries_in, in_whole, passed, stranger_in, tables_break, value_in}
use Rattle.description.proofs.read.read_description.Goals as goal
use Rattle.description.specs.declared.place.TableName.TheVariants as name

pub returns-in_err-check_keys : goal.returns-in_err-check_keys
returns-in_err-check_keys c =
    let ms = table_view c.args.table.now in
    passed _ _ _ _ _ c.from_residual.ensures.1 c.in_err-check_keys.ensures (λ p is. in_whole ms p (stranger_in name.Whole ms p is))

pub returns-in_err-geometry : goal.returns-in_err-geometry
returns-in_err-geometry c = passed _ _ _ _ _ c.from_residual-in_err-geometry.ensures.1 c.in_err-geometry.ensures
    (in_whole (table_view c.args.table.now))

pub returns-in_err-layout : goal.returns-in_err-layout
returns-in_err-layout c =
    let ms = table_view c.args.table.now in
    let fits : FitAll ms (take 3 (keys_of name.Whole)) =
    ((_, c.in_ok-geometry.ensures.nodes), ((_, c.in_ok-geometry.ensures.pages), ((_, c.in_ok-geometry.ensures.log), tt))) in
    passed _ _ _ _ _ c.from_residual-in_err-layout.ensures.1 c.in_err-layout.ensures
    (λ p is. in_whole ms p (value_in name.Whole Layout ms (c.in_ok-check_keys.ensures, 3, refl, fits) _ refl (λ fits. fits) p is))

pub returns-in_err-age : goal.returns-in_err-age
returns-in_err-age c =
    let ms = table_view c.args.table.now in
    let fits : FitAll ms (take 4 (keys_of name.Whole)) = (
      (_, c.in_ok-geometry.ensures.nodes),
      (
        (_, c.in_ok-geometry.ensures.pages),
        ((_, c.in_ok-geometry.ensures.log), ((_, c.in_ok-layout.ensures), tt)),
      ),
    ) in
    passed _ _ _ _ _ c.from_residual-in_err-age.ensures.1 c.in_err-age.ensures
    (λ p is. in_whole ms p (value_in name.Whole Age ms (c.in_ok-check_keys.ensures, 4, refl, fits) _ refl (λ fits. fits) p is))

pub returns-in_err-ranges : goal.returns-in_err-ranges
returns-in_err-ranges c =
    let ms = table_view c.args.table.now in
    let fits : FitAll ms (take 5 (keys_of name.Whole)) = (
      (_, c.in_ok-geometry.ensures.nodes),
      (
        (_, c.in_ok-geometry.ensures.pages),
        ((_, c.in_ok-geometry.ensures.log), ((_, c.in_ok-layout.ensures), ((_, c.in_ok-age.ensures), tt))),
      ),
    ) in
    passed _ _ _ _ _ c.from_residual-in_err-ranges.ensures.1 c.in_err-ranges.ensures
    (λ p is. in_whole ms p (entries_in name.Whole Ranges ms (c.in_ok-check_keys.ensures, 5, refl, fits) IsRange refl (λ fits. fits)
    (λ d so. so) (λ d none. none) p is))

pub returns-in_err-banks : goal.returns-in_err-banks
returns-in_err-banks c =
    let ms = table_view c.args.table.now in
    let ranges : FitsAt Ranges ms = with_default (IsList IsRange) _ (whole_ranges c.in_ok-geometry.geometry) [] _ c.in_ok-ranges.ensures in
    let fits : FitAll ms (take 6 (keys_of name.Whole)) = (
      (_, c.in_ok-geometry.ensures.nodes),
      (
        (_, c.in_ok-geometry.ensures.pages),
        ((_, c.in_ok-geometry.ensures.log), ((_, c.in_ok-layout.ensures), ((_, c.in_ok-age.ensures), (ranges, tt)))),
      ),
    ) in
    passed _ _ _ _ _ c.from_residual-in_err-banks.ensures.1 c.in_err-banks.ensures
    (tables_break ms Banks (c.in_ok-check_keys.ensures, 6, refl, fits) IsBank (λ i. name.Bank i) refl (λ fits. fits) (λ d so. so)
    (λ d none. none) (λ i flaw is. is))

pub returns-in_err-processes : goal.returns-in_err-processes
returns-in_err-processes c =
    let ms = table_view c.args.table.now in
    let ranges : FitsAt Ranges ms = with_default (IsList IsRange) _ (whole_ranges c.in_ok-geometry.geometry) [] _ c.in_ok-ranges.ensures in
    let fits : FitAll ms (take 7 (keys_of name.Whole)) = (
      (_, c.in_ok-geometry.ensures.nodes),
      (
        (_, c.in_ok-geometry.ensures.pages),
        (
          (_, c.in_ok-geometry.ensures.log),
          (
            (_, c.in_ok-layout.ensures),
            (
              (_, c.in_ok-age.ensures),
              (ranges, ((_, c.in_ok-banks.ensures), tt)),
            ),
          ),
        ),
      ),
    ) in
    passed _ _ _ _ _ c.from_residual-in_err-processes.ensures.1 c.in_err-processes.ensures
    (tables_break ms Processes (c.in_ok-check_keys.ensures, 7, refl, fits) IsProcess (λ i. name.Process i) refl (λ fits. fits) (λ d so. so)
    (λ d none. none) (λ i flaw is. is))

pub returns-in_err-nodes : goal.returns-in_err-nodes
returns-in_err-nodes c =
    let ms = table_view c.args.table.now in
    let ranges : FitsAt Ranges ms = with_default (IsList IsRange) _ (whole_ranges c.in_ok-geometry.geometry) [] _ c.in_ok-ranges.ensures in
    let fits : FitAll ms (take 8 (keys_of name.Whole)) = (
      (_, c.in_ok-geometry.ensures.nodes),
      (
        (_, c.in_ok-geometry.ensures.pages),
        (
          (_, c.in_ok-geometry.ensures.log),
          (
            (_, c.in_ok-layout.ensures),
            (
              (_, c.in_ok-age.ensures),
              (ranges, ((_, c.in_ok-banks.ensures), ((_, c.in_ok-processes.ensures), tt))),
            ),
          ),
        ),
      ),
    ) in
    passed _ _ _ _ _ c.from_residual-in_err-nodes.ensures.1 c.in_err-nodes.ensures
    (tables_break ms NodeList (c.in_ok-check_keys.ensures, 8, refl, fits) IsNode (λ i. name.Node i) refl (λ fits. fits) (λ d so. so)
    (λ d none. none) (λ i flaw is. is))

pub returns-in_err-pages : goal.returns-in_err-pages
returns-in_err-pages c =
    let ms = table_view c.args.table.now in
    let ranges : FitsAt Ranges ms = with_default (IsList IsRange) _ (whole_ranges c.in_ok-geometry.geometry) [] _ c.in_ok-ranges.ensures in
    let fits : FitAll ms (take 9 (keys_of name.Whole)) = (
      (_, c.in_ok-geometry.ensures.nodes),
      (
        (_, c.in_ok-geometry.ensures.pages),
        (
          (_, c.in_ok-geometry.ensures.log),
          (
            (_, c.in_ok-layout.ensures),
            (
              (_, c.in_ok-age.ensures),
              (ranges, ((_, c.in_ok-banks.ensures), ((_, c.in_ok-processes.ensures), ((_, c.in_ok-nodes.ensures), tt)))),
            ),
          ),
        ),
      ),
    ) in
    passed _ _ _ _ _ c.from_residual-in_err-pages.ensures.1 c.in_err-pages.ensures
    (tables_break ms PageList (c.in_ok-check_keys.ensures, 9, refl, fits) IsPage (λ i. name.Page i) refl (λ fits. fits) (λ d so. so)
    (λ d none. none) (λ i flaw is. is))
