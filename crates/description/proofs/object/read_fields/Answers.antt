use Rattle.description.proofs.Names.{table_view, refl, ObjectOwner, ProcessAnnex, ProcessKey, ProcessRoot, ProcessSpace, ProcessState, ProcessWords}
use Rattle.description.proofs.FirstFlaws.{passed, stranger_in, value_in}
use Rattle.description.proofs.object.read_fields.Goals as goal
use Rattle.description.specs.declared.place.TableName.TheVariants as name

pub returns-in_err-check_keys : goal.returns-in_err-check_keys
returns-in_err-check_keys c = passed _ _ _ _ _ c.from_residual.ensures.1 c.in_err-check_keys.ensures
    (stranger_in (name.Process c.args.index) (table_view c.args.table.now))

pub returns-in_err-root : goal.returns-in_err-root
returns-in_err-root c = passed _ _ _ _ _ c.from_residual-in_err-root.ensures.1 c.in_err-root.ensures
    (value_in (name.Process c.args.index) ProcessRoot (table_view c.args.table.now)
    (c.in_ok-check_keys.ensures, 0, refl, tt) _ refl (λ fits. fits))

pub returns-in_err-annex : goal.returns-in_err-annex
returns-in_err-annex c = passed _ _ _ _ _ c.from_residual-in_err-annex.ensures.1 c.in_err-annex.ensures
    (value_in (name.Process c.args.index) ProcessAnnex (table_view c.args.table.now)
    (c.in_ok-check_keys.ensures, 1, refl, ((_, c.in_ok-root.ensures), tt)) _ refl (λ fits. fits))

pub returns-in_err-owner : goal.returns-in_err-owner
returns-in_err-owner c = passed _ _ _ _ _ c.from_residual-in_err-owner.ensures.1 c.in_err-owner.ensures
    (value_in (name.Process c.args.index) ObjectOwner (table_view c.args.table.now)
    (c.in_ok-check_keys.ensures, 2, refl, ((_, c.in_ok-root.ensures), ((_, c.in_ok-annex.ensures), tt))) _ refl (λ fits. fits))

pub returns-in_err-state : goal.returns-in_err-state
returns-in_err-state c = passed _ _ _ _ _ c.from_residual-in_err-state.ensures.1 c.in_err-state.ensures
    (value_in (name.Process c.args.index) ProcessState (table_view c.args.table.now)
    (c.in_ok-check_keys.ensures, 3, refl, ((_, c.in_ok-root.ensures), ((_, c.in_ok-annex.ensures), ((_, c.in_ok-owner.ensures), tt)))) _
    refl (λ fits. fits))

pub returns-in_err-key : goal.returns-in_err-key
returns-in_err-key c = passed _ _ _ _ _ c.from_residual-in_err-key.ensures.1 c.in_err-key.ensures
    (value_in (name.Process c.args.index) ProcessKey (table_view c.args.table.now) (
      c.in_ok-check_keys.ensures,
      4,
      refl,
      (
        (_, c.in_ok-root.ensures),
        (
          (_, c.in_ok-annex.ensures),
          ((_, c.in_ok-owner.ensures), ((_, c.in_ok-state.ensures), tt)),
        ),
      ),
    ) _ refl (λ fits. fits))

pub returns-in_err-words : goal.returns-in_err-words
returns-in_err-words c = passed _ _ _ _ _ c.from_residual-in_err-words.ensures.1 c.in_err-words.ensures
    (value_in (name.Process c.args.index) ProcessWords (table_view c.args.table.now) (
      c.in_ok-check_keys.ensures,
      5,
      refl,
      (
        (_, c.in_ok-root.ensures),
        (
          (_, c.in_ok-annex.ensures),
          ((_, c.in_ok-owner.ensures), ((_, c.in_ok-state.ensures), ((_, c.in_ok-key.ensures), tt))),
        ),
      ),
    ) _ refl (λ fits. fits))

pub returns-in_err-space : goal.returns-in_err-space
returns-in_err-space c = passed _ _ _ _ _ c.from_residual-in_err-space.ensures.1 c.in_err-space.ensures
    (value_in (name.Process c.args.index) ProcessSpace (table_view c.args.table.now) (
      c.in_ok-check_keys.ensures,
      6,
      refl,
      (
        (_, c.in_ok-root.ensures),
        (
          (_, c.in_ok-annex.ensures),
          ((_, c.in_ok-owner.ensures), ((_, c.in_ok-state.ensures), ((_, c.in_ok-key.ensures), ((_, c.in_ok-words.ensures), tt)))),
        ),
      ),
    ) _ refl
    (λ fits. fits))
