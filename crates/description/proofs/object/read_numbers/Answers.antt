use Rattle.description.proofs.Names.{table_view, map, codes, List, [], ap, refl, Key, ObjectNumber, ObjectOwner, key_name, keys_of}
use Rattle.std.proofs.Common.{◌≡◌, ◌∷◌}
use Rattle.description.proofs.FirstFlaws.{before_number, before_owner, passed, stranger_in, value_in}
use Rattle.description.proofs.object.read_numbers.Goals as goal

pub returns-in_err-check_keys : goal.returns-in_err-check_keys
returns-in_err-check_keys c =
    let ms = table_view c.args.table.now in
    let names : map key_name (keys_of c.args.name) ≡ codes "number" ∷ codes "owner" ∷ key_name c.args.other ∷ [] =
    ap (λ (ks : List Key). map key_name ks) c.requires in
    passed _ _ _ _ _ c.from_residual.ensures.1 c.in_err-check_keys.ensures (λ p is. stranger_in c.args.name ms p
    (rw (names, ← c.name.ensures) is))

pub returns-in_err-first : goal.returns-in_err-first
returns-in_err-first c =
    let ms = table_view c.args.table.now in
    let known = rw c.name.ensures at c.in_ok-check_keys.ensures in
    passed _ _ _ _ _ c.from_residual-in_err-first.ensures.1 c.in_err-first.ensures
    (value_in c.args.name ObjectNumber ms (before_number c.args.name c.args.other ms c.requires known) _ refl (λ fits. fits))

pub returns-in_err-owner : goal.returns-in_err-owner
returns-in_err-owner c =
    let ms = table_view c.args.table.now in
    let known = rw c.name.ensures at c.in_ok-check_keys.ensures in
    passed _ _ _ _ _ c.from_residual-in_err-owner.ensures.1 c.in_err-owner.ensures
    (value_in c.args.name ObjectOwner ms (before_owner c.args.name c.args.other ms c.requires known _ c.in_ok-first.ensures) _ refl
    (λ fits. fits))

pub returns : goal.returns
returns c = record {
  known = rw c.name.ensures at c.in_ok-check_keys.ensures;
  number = c.in_ok-first.ensures;
  owner = c.in_ok-owner.ensures;
}
