-- Which descriptions are refused on every device, and with which fault.
use Rattle.image_builder.proofs.Names.{ℕ, List, ap, refl, subst, sym, arith, IfErr, OnOk, Result, Ok, Err, Members, Disk, Cap, Frame, ObjectHeader, Content}
use Rattle.image_builder.proofs.Names.{frames_in, sound_banked, sound_named, BadImage, BadCapability, BadProcess, BadBank, AreBanked, AreNamed}
use Rattle.image_builder.proofs.Names.{AreWholeProcesses, IsInconsistent, Description, IsDescription, HasFields, HasNumbers, IsDescribed, BuildFault, Shape}
use Rattle.image_builder.proofs.Names.{Limits, Number, Field, Target, Owner, Small, Failed, NoMemory, Builds, BuildsFrom, IsAccepted, IsRefused, fault_number}
use Rattle.image_builder.proofs.Names.{IsRefusedEarly, IsSoundDescription, described_once, IsWithinLimits, Refuses, Rule, TellsNoSize, AreLaid, IsWorldFault}
use Rattle.image_builder.proofs.Names.{BreaksShape, Misread, Misses, misread_fault, shape_refuted, all_kept, field_broken, number_broken, owner_broken}
use Rattle.image_builder.proofs.Names.{small_broken, target_broken}
use Rattle.std.proofs.Common.{◌≡◌, ◌≢◌, ◌<◌}
use Rattle.description.specs.declared.place.Misread.TheVariants as misread

-- a fault below 8 isn't `Failed`
unfailed : (fault : BuildFault) → fault_number fault < 8 → fault ≢ Failed
unfailed fault lesser is = omega (arith, lesser, ap fault_number is)

module _ (d : Description) (limits : IsWithinLimits d) where
  pub number_refused : (HasNumbers d → ⊥) → IsRefusedEarly d Number
  number_refused broken = record {
    early = unfailed Number (omega arith);
    refused = λ sectors. number_broken d sectors limits broken;
  }

  pub field_refused : HasNumbers d × (HasFields d → ⊥) → IsRefusedEarly d Field
  field_refused reported = record {
    early = unfailed Field (omega arith);
    refused = λ sectors. field_broken d sectors limits reported.0 reported.1;
  }

  pub target_refused : HasNumbers d × HasFields d × ((fs : List Frame) → IsDescribed d fs → AreNamed fs → ⊥) → IsRefusedEarly d Target
  target_refused reported = record {
    early = unfailed Target (omega arith);
    refused = λ sectors. target_broken d sectors limits reported.0 reported.1 (λ rule. reported.2 rule.0 rule.1 rule.2);
  }

  -- a description without a world is refused on every device
  pub world_refused : (fault : BuildFault) → IsWorldFault d fault → IsRefusedEarly d fault
  world_refused Number reported = number_refused reported
  world_refused Field reported = field_refused reported
  world_refused Target reported = target_refused reported
  world_refused NoMemory reported = record { early = λ is. omega (arith, ap fault_number is); refused = λ sectors. tt }
  world_refused Shape reported = absurd reported
  world_refused Limits reported = absurd reported
  world_refused Owner reported = absurd reported
  world_refused Small reported = absurd reported
  world_refused Failed reported = absurd reported

  module _ (hs : List ObjectHeader) (cs : List (Content Cap)) (laid : AreLaid d hs cs) where
    -- if P holds of described frames, it holds of those that were laid, because they are equal
    as_laid : (P : List Frame → Type 0) (fs : List Frame) → IsDescribed d fs → P fs → P (frames_in hs cs)
    as_laid P fs described p = subst P (described_once d fs (frames_in hs cs) described laid.described) p

    capability_refused : (AreNamed (frames_in hs cs) → ⊥) → IsRefusedEarly d Target
    capability_refused bad = target_refused (laid.numbers, laid.fields, λ fs described named. bad (as_laid AreNamed fs described named))

    bank_refused : AreNamed (frames_in hs cs) → (AreBanked (frames_in hs cs) → ⊥) → IsRefusedEarly d Owner
    bank_refused named bad = record {
      early = unfailed Owner (omega arith);
      refused = λ sectors. owner_broken d sectors limits laid.numbers laid.fields (frames_in hs cs, laid.described, named)
          (λ rule. bad (as_laid AreBanked rule.0 rule.1 rule.2));
    }

    -- if the described frames are inconsistent, the description is refused on every device; processes are never the reason
    pub reason_refused : AreWholeProcesses (frames_in hs cs) → (why : BadImage) (fault : BuildFault) →
        IsInconsistent (frames_in hs cs) why → (why ≡ BadCapability → fault ≡ Target) → (why ≡ BadBank → fault ≡ Owner) →
        IsRefusedEarly d fault
    reason_refused whole BadCapability fault is target owner = subst (λ (f : BuildFault). IsRefusedEarly d f) (sym (target refl))
        (capability_refused is)
    reason_refused whole BadProcess fault is target owner = absurd (is.1 whole)
    reason_refused whole BadBank fault is target owner = subst (λ (f : BuildFault). IsRefusedEarly d f) (sym (owner refl))
        (bank_refused is.0 is.2)
    reason_refused whole _ fault is target owner = absurd is

  module _ (s : IsSoundDescription d) (sectors : ℕ) where
    target_kept : Rule d sectors Target
    target_kept = (s.frames, s.described, sound_named d.geometry d.age s.frames s.sound)

    owner_kept : Rule d sectors Owner
    owner_kept = (s.frames, s.described, sound_banked d.geometry d.age s.frames s.sound)

    pub small_refused : (Rule d sectors Small → ⊥) → IsRefused d sectors Small
    small_refused broken = small_broken d sectors limits s.numbers s.fields target_kept owner_kept broken

    pub accepted : Rule d sectors Small → IsAccepted d sectors
    accepted small = all_kept d sectors limits s.numbers s.fields target_kept owner_kept small

-- if a description is refused, its table is refused with the same fault
refuses : (ms : Members) (d : Description) (sectors : ℕ) (fault : BuildFault) → IsDescription ms d → IsRefused d sectors fault →
    Refuses ms sectors fault
refuses ms d sectors Shape is refused = absurd (refused.broken tt)
refuses ms d sectors Limits is refused = (d, is, refused)
refuses ms d sectors Number is refused = (d, is, refused)
refuses ms d sectors Field is refused = (d, is, refused)
refuses ms d sectors Target is refused = (d, is, refused)
refuses ms d sectors Owner is refused = (d, is, refused)
refuses ms d sectors Small is refused = (d, is, refused)
refuses ms d sectors Failed is refused = (d, is, refused)
refuses ms d sectors NoMemory is refused = tt

-- if the description is accepted, only a failed device can refuse it
pub failed_refused : {T : Type 0} (d : Description) (sectors : ℕ) (r : Result T BuildFault) → IsAccepted d sectors →
    IfErr r (λ fault. fault ≡ Failed) → IfErr r (λ fault. IsRefused d sectors fault)
failed_refused d sectors (Ok x) all reported = reported
failed_refused d sectors (Err fault) all reported = subst (λ (f : BuildFault). IsRefused d sectors f) (sym reported) all

pub refused_from : {T : Type 0} (ms : Members) (d : Description) (sectors : ℕ) (r : Result T BuildFault) → IsDescription ms d →
    IfErr r (λ fault. IsRefused d sectors fault) → IfErr r (λ fault. Refuses ms sectors fault)
refused_from ms d sectors (Ok x) is reported = reported
refused_from ms d sectors (Err fault) is reported = refuses ms d sectors fault is reported

pub built_from : {T : Type 0} (ms : Members) (d : Description) (old new : Disk) (r : Result T BuildFault) → IsDescription ms d →
    OnOk r (Builds d old new) → OnOk r (BuildsFrom ms old new)
built_from ms d old new (Ok x) is built = (d, is, built)
built_from ms d old new (Err fault) is built = built

-- if a table can't be read, the size of its image is unknown
pub unread_refused : (ms : Members) (why : Misread) → Misses (BreaksShape ms) why → TellsNoSize ms (misread_fault why)
unread_refused ms (misread.Misshapen place) broken = shape_refuted ms place broken
unread_refused ms misread.NoMemory broken = tt

-- if a description is outside the limits, the size of its image is unknown
pub size_refused : (ms : Members) (d : Description) (fault : BuildFault) → IsDescription ms d → fault ≡ Limits → (IsWithinLimits d → ⊥) →
    TellsNoSize ms fault
size_refused ms d fault is limits broken = subst (λ (f : BuildFault). TellsNoSize ms f) (sym limits) (d, is, broken)

-- a description keeps each rule before that of the limits
below_limits : (d : Description) (sectors : ℕ) (lesser : BuildFault) → fault_number lesser < 2 → Rule d sectors lesser
below_limits d sectors Shape below = tt
below_limits d sectors Limits below = absurd (omega (arith, below))
below_limits d sectors Number below = absurd (omega (arith, below))
below_limits d sectors Field below = absurd (omega (arith, below))
below_limits d sectors Target below = absurd (omega (arith, below))
below_limits d sectors Owner below = absurd (omega (arith, below))
below_limits d sectors Small below = absurd (omega (arith, below))
below_limits d sectors Failed below = tt
below_limits d sectors NoMemory below = tt

-- if the size of a table's image is unknown, the table is refused on every device
pub size_refuses : (ms : Members) (sectors : ℕ) (why : BuildFault) → TellsNoSize ms why → Refuses ms sectors why
size_refuses ms sectors Shape reported = reported
size_refuses ms sectors Limits reported = (reported.0, reported.1, record { kept = below_limits reported.0 sectors; broken = reported.2 })
size_refuses ms sectors NoMemory reported = tt
size_refuses ms sectors Number reported = absurd reported
size_refuses ms sectors Field reported = absurd reported
size_refuses ms sectors Target reported = absurd reported
size_refuses ms sectors Owner reported = absurd reported
size_refuses ms sectors Small reported = absurd reported
size_refuses ms sectors Failed reported = absurd reported
