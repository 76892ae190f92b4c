-- The lines that print a chain.
use Rattle.reach.specs.Names.{ℕ, Option, None, Some, List, [], Vec, codes, decimal, flat_map, Global, Capability}
use Rattle.reach.specs.Names.{Content, Object, capability_text, line_of, spaced, content_at, object_at, Format, Key}
use Rattle.std.specs.Prelude.{◌∷◌, ◌++◌}
use Rattle.json_lines.specs.declared.format.Format.TheVariants as format
use Rattle.json_lines.specs.declared.key.Key.TheVariants as key
use Rattle.json_lines.specs.declared.object.Member.TheVariants as member
use Rattle.model.specs.declared.object.Content.TheVariants as content
use Rattle.reach.specs.declared.authority.Purpose.{Purpose}
use Rattle.reach.specs.declared.authority.Purpose.TheVariants as purpose
use Rattle.reach.specs.declared.step.Step.{Step}
use Rattle.reach.specs.declared.step.Way.{Way}
use Rattle.reach.specs.declared.step.Way.TheVariants as way
use Rattle.reach.specs.Lines.{held_text, kind_object, object_text}

abbrev pub kind_of : Content Capability → List ℕ
kind_of content.Free = codes "free"
kind_of (content.Page words) = codes "page"
kind_of (content.Node slots) = codes "node"
kind_of (content.Root root) = codes "process"
kind_of (content.Annex registers) = codes "annex"
kind_of (content.Bank limit) = codes "bank"

abbrev pub place_of : Content Capability → Key
place_of (content.Node slots) = key.Slot
place_of other = key.Register

-- a step: `process 3 has annex 4`, `bank 6 owns node 7`, `process 3, space: page 9`, or `node 7, slot 0: page 9 ro`
abbrev pub step_text : Format → List Object → ℕ → Way → ℕ → List ℕ
step_text format.Text os n way.Annex m = spaced (codes "process" ∷ decimal n ∷ codes "has annex" ∷ decimal m ∷ [])
step_text format.Text os n way.Owner m = spaced
    (codes "bank" ∷ decimal n ∷ codes "owns" ∷ kind_of (content_at os m) ∷ decimal m ∷ [])
step_text format.Text os n (way.Space c) m = spaced
    (codes "process" ∷ (decimal n ++ codes ",") ∷ codes "space:" ∷ capability_text c ∷ [])
step_text format.Json os n way.Annex m = kind_object (codes "process") n (member.Number key.Annex m ∷ [])
step_text format.Json os n way.Owner m = kind_object (codes "bank") n (member.Number key.Owns m ∷ [])
step_text format.Json os n (way.Space c) m = kind_object (codes "process") n (member.Capability key.Space c ∷ [])
step_text f os n (way.Slot i c) m = held_text f (kind_of (content_at os n)) n (place_of (content_at os n)) i c

-- the line of a step
abbrev pub step_line : Format → List Object → Step → List ℕ
step_line f os s = line_of (step_text f os s.from s.way s.to)

-- a line for each step of a chain, then the line of the object that it leads to
abbrev pub steps_text : Format → List Object → List Step → ℕ → List ℕ
steps_text f os steps o = flat_map (step_line f os) steps ++ line_of (object_text f o (object_at os o))

-- the words if there is no chain: `cannot change` or `cannot read`
abbrev pub denial_of : Purpose → List ℕ
denial_of purpose.Change = codes "cannot change"
denial_of purpose.Read = codes "cannot read"

-- the JSON key if there is no chain: `"can_change"` or `"can_read"`
abbrev pub denied_key : Purpose → Key
denied_key purpose.Change = key.CanChange
denied_key purpose.Read = key.CanRead

-- the line of an object that no chain leads to
abbrev pub unchanged_text : Format → List Object → Purpose → ℕ → List ℕ
unchanged_text format.Text os p o = spaced (denial_of p ∷ kind_of (content_at os o) ∷ decimal o ∷ [])
unchanged_text format.Json os p o = kind_object (kind_of (content_at os o)) o (member.No (denied_key p) ∷ [])

-- the lines of a chain to an object; if there is no chain, a line that says so
unfoldable pub chain_text : Format → List Object → Purpose → ℕ → Option (Vec Step Global) → List ℕ
chain_text f os p o None = line_of (unchanged_text f os p o)
chain_text f os p o (Some steps) = steps_text f os steps.items o
