-- Which rule a description breaks first.
use Rattle.description.proofs.Names.{ℕ, inl, inr, refl, sym, ap, subst, arith, cases_lt, Description, BuildFault, Shape, Limits, Field, Target, Owner, Small}
use Rattle.description.proofs.Names.{Failed, NoMemory, fault_number, IsAccepted, IsFirstBroken, Rule, NoFault, OneFault}
use Rattle.description.specs.declared.fault.BuildFault.TheVariants.{Number}
use Rattle.std.proofs.Common.{◌≡◌, ◌+◌, ◌<◌, ◌≤◌, ◌∙◌}
use Rattle.std.specs.Prelude.{◌==◌, if◌then◌else◌}

-- the fault with this number
abbrev fault_at : ℕ → BuildFault
fault_at n =
    if n == 1 then Shape else if n == 2 then Limits else if n == 3 then Number else if n == 4 then Field else
    if n == 5 then Target else if n == 6 then Owner else if n == 7 then Small else if n == 8 then Failed else NoMemory

back_at : (fault : BuildFault) → fault_at (fault_number fault) ≡ fault
back_at Shape = refl
back_at Limits = refl
back_at Number = refl
back_at Field = refl
back_at Target = refl
back_at Owner = refl
back_at Small = refl
back_at Failed = refl
back_at NoMemory = refl

-- faults with the same number are equal
same_fault : (fault other : BuildFault) → fault_number fault ≡ fault_number other → fault ≡ other
same_fault fault other same = sym (back_at fault) ∙ ap fault_at same ∙ back_at other

pub one_fault : OneFault
one_fault d sectors fault other one two = elim (cases_lt (fault_number fault) (fault_number other)) [
  | inl lesser ↦ absurd (one.broken (two.kept fault lesser))
  | inr least ↦ elim (cases_lt (fault_number other) (fault_number fault)) [
    | inl greater ↦ absurd (two.broken (one.kept other greater))
    | inr most ↦ same_fault fault other (omega (arith, least, most))
  ]
]

pub accepted_has_none : NoFault
accepted_has_none d sectors fault accepted refused = refused.broken (accepted fault)

-- all rules whose number is below `count` are kept
abbrev pub AreKept : Description → ℕ → ℕ → Type 0
AreKept d sectors count = (fault : BuildFault) → fault_number fault < count → Rule d sectors fault

one_more : (d : Description) (sectors : ℕ) (fault : BuildFault) → AreKept d sectors (fault_number fault) → Rule d sectors fault →
    AreKept d sectors (fault_number fault + 1)
one_more d sectors fault below kept other within = elim (cases_lt (fault_number other) (fault_number fault)) [
  | inl lesser ↦ below other lesser
  | inr least ↦ subst (λ (f : BuildFault). Rule d sectors f) (same_fault fault other (omega (arith, within, least))) kept
]

positive : (fault : BuildFault) → 1 ≤ fault_number fault
positive Shape = omega arith
positive Limits = omega arith
positive Number = omega arith
positive Field = omega arith
positive Target = omega arith
positive Owner = omega arith
positive Small = omega arith
positive Failed = omega arith
positive NoMemory = omega arith

module _ (d : Description) (sectors : ℕ) where
  below_limits : AreKept d sectors 2
  below_limits = one_more d sectors Shape (λ fault within. absurd (omega (arith, within, positive fault))) tt

  pub limits_broken : (Rule d sectors Limits → ⊥) → IsFirstBroken d sectors Limits
  limits_broken broken = record { kept = below_limits; broken = broken }

  module _ (limits : Rule d sectors Limits) where
    below_number : AreKept d sectors 3
    below_number = one_more d sectors Limits below_limits limits

    pub number_broken : (Rule d sectors Number → ⊥) → IsFirstBroken d sectors Number
    number_broken broken = record { kept = below_number; broken = broken }

    module _ (numbers : Rule d sectors Number) where
      below_field : AreKept d sectors 4
      below_field = one_more d sectors Number below_number numbers

      pub field_broken : (Rule d sectors Field → ⊥) → IsFirstBroken d sectors Field
      field_broken broken = record { kept = below_field; broken = broken }

      module _ (fields : Rule d sectors Field) where
        below_target : AreKept d sectors 5
        below_target = one_more d sectors Field below_field fields

        pub target_broken : (Rule d sectors Target → ⊥) → IsFirstBroken d sectors Target
        target_broken broken = record { kept = below_target; broken = broken }

        module _ (target : Rule d sectors Target) where
          below_owner : AreKept d sectors 6
          below_owner = one_more d sectors Target below_target target

          pub owner_broken : (Rule d sectors Owner → ⊥) → IsFirstBroken d sectors Owner
          owner_broken broken = record { kept = below_owner; broken = broken }

          module _ (owner : Rule d sectors Owner) where
            below_small : AreKept d sectors 7
            below_small = one_more d sectors Owner below_owner owner

            pub small_broken : (Rule d sectors Small → ⊥) → IsFirstBroken d sectors Small
            small_broken broken = record { kept = below_small; broken = broken }

            pub all_kept : Rule d sectors Small → IsAccepted d sectors
            all_kept small Shape = tt
            all_kept small Limits = limits
            all_kept small Number = numbers
            all_kept small Field = fields
            all_kept small Target = target
            all_kept small Owner = owner
            all_kept small Small = small
            all_kept small Failed = tt
            all_kept small NoMemory = tt
