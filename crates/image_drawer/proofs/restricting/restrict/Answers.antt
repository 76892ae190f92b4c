use Rattle.image_drawer.proofs.Names.{rules, refl, arith, sym, filter, filter_same, is_marked, common_steps}
use Rattle.std.proofs.Common.{◌≡◌}
use Rattle.image_drawer.proofs.restricting.restrict.Goals as goal

pub returns : goal.returns
returns c =
    let d = c.args.description.now in
    let processes : filter (λ p. is_marked c.args.inside.now p.root) d.processes.items ≡ c.retain-2.new.self.items =
    sym (filter_same _ _ _ (λ x b f' k. search rules) _ _ c.retain-2.ensures.filtered) in
    let nodes : filter (λ n. is_marked c.args.inside.now n.number) d.nodes.items ≡ c.retain-3.new.self.items =
    sym (filter_same _ _ _ (λ x b f' k. search rules) _ _ c.retain-3.ensures.filtered) in record {
      geometry = refl;
      layout = refl;
      age = refl;
      ranges = refl;
      banks = filter_same _ _ _ (λ x b f' k. search rules) _ _ c.retain.ensures.filtered;
      processes = rw processes (grind (arith, common_steps));
      nodes = rw nodes (grind (arith, common_steps));
      pages = filter_same _ _ _ (λ x b f' k. search rules) _ _ c.retain-4.ensures.filtered;
    }
