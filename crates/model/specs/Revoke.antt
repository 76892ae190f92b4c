-- Making capabilities void: rescind and consume.
use Rattle.model.specs.Names.{ℕ, Bool, false, not, None, Some, List, map, nat_eq, list_any, enumerate_from}
use Rattle.std.specs.Prelude.{◌==◌, ◌&&◌, if◌then◌else◌}
use Rattle.model.specs.declared.capability.Capability.{Capability}
use Rattle.model.specs.declared.capability.Capability.TheVariants.{Void, Resume}
use Rattle.model.specs.declared.object.Object.{Object}
use Rattle.model.specs.Capability.{named}
use Rattle.model.specs.Object.{free, is_free, map_content}
use Rattle.model.specs.World.{content_at}

-- a capability, made void if `goes` says so
abbrev pub void_where : (Capability → Bool) → Capability → Capability
void_where goes c = if goes c then Void else c

-- an object, with each capability in it made void if `goes` says so
abbrev pub without : (Capability → Bool) → Object → Object
without goes o = record { owner = o.owner; content = map_content (void_where goes) o.content }

-- whether a number is a member of a set
abbrev pub is_member : List ℕ → ℕ → Bool
is_member set n = list_any (nat_eq n) set

-- whether a capability names a member
abbrev pub names_member : List ℕ → Capability → Bool
names_member set c = elim (named c) [ None ↦ false | Some n ↦ is_member set n ]

-- whether a capability is the right to resume process p
abbrev pub resumes : ℕ → Capability → Bool
resumes p (Resume q) = q == p
resumes p _ = false

-- the objects with all members free and no capability naming one (EROS: rescind; KeyKOS: sever)
unfoldable pub rescind : List ℕ → List Object → List Object
rescind set os = map (λ p. if is_member set p.0 then free else without (names_member set) p.1) (enumerate_from 0 os)

-- the objects with no capability that resumes process p (EROS: a resume capability works at most once)
unfoldable pub consume : ℕ → List Object → List Object
consume p os = map (without (resumes p)) os

-- whether object n was rescinded between os and us: in use in os, free in us
abbrev pub is_given_up : List Object → List Object → ℕ → Bool
is_given_up os us n = not (is_free (content_at os n)) && is_free (content_at us n)
