-- Each rule and place that is reported about a description is right.
use Rattle.description_explainer.proofs.Names.{ℕ, List, subst, Frame, Unbanked, AreNamed, NamesItsRole, IsUnbanked, unbanked_refuted, Description, HasFields}
use Rattle.description_explainer.proofs.Names.{HasNumbers, IsDescribed, IsTarget, described_once, IsFirstBroken, IsWithinLimits, Refuses, field_broken}
use Rattle.description_explainer.proofs.Names.{limits_broken, number_broken, owner_broken, target_broken, Held, Limit, Misnumbered, Part, BreaksField}
use Rattle.description_explainer.proofs.Names.{BreaksLimit, BreaksNumber, BreaksTarget, BreaksWorld, AllHave, FirstLacks, ExplainsDescription, IfNone, IfSome}
use Rattle.description_explainer.proofs.Names.{MatchOption, Members, IsDescription, Rule, WorldFault, field_refuted, rule_fault, Misread, Misses, BreaksShape}
use Rattle.description_explainer.proofs.Names.{shape_refuted, ShapePlace, Explains, all_named, kind_broken, role_broken, target_refuted, limit_refuted}
use Rattle.description_explainer.proofs.Names.{number_refuted}
use Rattle.std.proofs.Common.{◌≡◌}
use Rattle.std.specs.Prelude.{Option, Some, None}
use Rattle.description.specs.declared.flaw.WorldFault.TheVariants as fault
use Rattle.description.specs.declared.place.Misread.TheVariants as misread
use Rattle.description_explainer.specs.declared.place.Place.TheVariants as place
use Rattle.description_explainer.specs.declared.place.Rule.TheVariants as rule

module _ (d : Description) where
  pub explains_limit : (l : Limit) → BreaksLimit d l → ExplainsDescription d (Some (rule.Limit l))
  explains_limit l broken = (broken, λ sectors. limits_broken d sectors (limit_refuted d l broken))

  module _ (limits : IsWithinLimits d) where
    explains_number : (place : Misnumbered) → BreaksNumber d place → ExplainsDescription d (Some (rule.Number place))
    explains_number place broken = (broken, λ sectors. number_broken d sectors limits (number_refuted d place broken))

    module _ (numbers : HasNumbers d) where
      explains_field : (part : Part) → BreaksField d part → ExplainsDescription d (Some (rule.Field part))
      explains_field part broken = (broken, λ sectors. field_broken d sectors limits numbers (field_refuted d part broken))

      module _ (fields : HasFields d) where
        explains_target : (at : Held) → BreaksTarget d at → ExplainsDescription d (Some (rule.Target at))
        explains_target at broken = (
          broken,
          λ sectors. target_broken d sectors limits numbers fields
              (λ rule. target_refuted d at numbers fields broken rule.0 rule.1 rule.2),
        )

        explains_kind : (at : Held) → FirstLacks (IsTarget d.geometry) d at → ExplainsDescription d (Some (rule.Target at))
        explains_kind at lacks = explains_target at (kind_broken d at numbers lacks)

        module _ (fs : List Frame) (is : IsDescribed d fs) where
          pub explains_role : AllHave (IsTarget d.geometry) d → (at : Held) → FirstLacks (NamesItsRole fs) d at →
              ExplainsDescription d (Some (rule.Target at))
          explains_role kinds at lacks = explains_target at (role_broken d at fs is kinds lacks)

          pub explains_owner : (unbanked : Unbanked) → AreNamed fs → IsUnbanked fs unbanked →
              ExplainsDescription d (Some (rule.Owner unbanked))
          explains_owner unbanked named why = (
            λ gs described. subst (λ (hs : List Frame). IsUnbanked hs unbanked) (described_once d fs gs is described) why,
            λ sectors. owner_broken d sectors limits numbers fields (fs, is, named)
                (λ rule. unbanked_refuted rule.0 unbanked (subst (λ (hs : List Frame). IsUnbanked hs unbanked)
                (described_once d fs rule.0 is rule.1) why)
                rule.2),
          )

-- the parameters: a description within the limits, and the first rule of worlds that it breaks
module _ (d : Description) (limits : IsWithinLimits d) (why : WorldFault) (broken : BreaksWorld d why) where
  broken_as : (is : WorldFault) → why ≡ is → BreaksWorld d is
  broken_as is same = subst (λ (w : WorldFault). BreaksWorld d w) same broken

  pub explains_numbered : (place : Misnumbered) → why ≡ fault.Number place → ExplainsDescription d (Some (rule.Number place))
  explains_numbered place is = explains_number d limits place (broken_as (fault.Number place) is)

  pub explains_part : (part : Part) → why ≡ fault.Field part → ExplainsDescription d (Some (rule.Field part))
  explains_part part is =
      let at : HasNumbers d × BreaksField d part = broken_as (fault.Field part) is in
      explains_field d limits at.0 part at.1

  pub explains_held : (held : Held) → why ≡ fault.Target held → ExplainsDescription d (Some (rule.Target held))
  explains_held held is =
      let at : HasNumbers d × HasFields d × FirstLacks (IsTarget d.geometry) d held = broken_as (fault.Target held) is in
      explains_kind d limits at.0 at.1 held at.2

-- the parameters: the described frames, in which all capabilities were searched
module _ (d : Description) (fs gs : List Frame) (same : gs ≡ fs) (is : IsDescribed d fs) where
  pub unnamed_none : (found : Option Held) → MatchOption found (AllHave (NamesItsRole gs) d) (λ at. FirstLacks (NamesItsRole gs) d at) →
      IfNone found (AreNamed fs)
  unnamed_none None all = all_named d fs is (subst (λ (hs : List Frame). AllHave (NamesItsRole hs) d) same all)
  unnamed_none (Some at) lacks = tt

  pub unnamed_some : IsWithinLimits d → HasNumbers d → HasFields d → AllHave (IsTarget d.geometry) d → (found : Option Held) →
      MatchOption found (AllHave (NamesItsRole gs) d) (λ at. FirstLacks (NamesItsRole gs) d at)
      → IfSome found (λ at. ExplainsDescription d (Some (rule.Target at)))
  unnamed_some limits numbers fields kinds None all = tt
  unnamed_some limits numbers fields kinds (Some at) lacks = explains_role d limits numbers fields fs is kinds at
      (subst (λ (hs : List Frame). FirstLacks (NamesItsRole hs) d at) same lacks)

-- if this is the first rule that a description breaks, its table is refused with that rule's fault
pub refused_rule : (ms : Members) (d : Description) (sectors : ℕ) (r : Rule) → IsDescription ms d → IsFirstBroken d sectors (rule_fault r) →
    Refuses ms sectors (rule_fault r)
refused_rule ms d sectors (rule.Limit l) is first = (d, is, first)
refused_rule ms d sectors other is first = (d, is, first)

-- if a table can't be read, it is refused at the place of its first flaw
pub misshapen_explained : (ms : Members) (why : Misread) (shape : ShapePlace) → why ≡ misread.Misshapen shape →
    Misses (BreaksShape ms) why → Explains ms (Some (place.Shape shape))
misshapen_explained ms why shape is misses =
    let broken : BreaksShape ms shape = subst (λ (w : Misread). Misses (BreaksShape ms) w) is misses in
    (broken, λ sectors. shape_refuted ms shape broken)
