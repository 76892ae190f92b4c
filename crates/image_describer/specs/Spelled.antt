-- Which descriptions have a text.
use Rattle.image_describer.specs.Names.{ℕ, Option, length, IfSome, All, NumberRange, Capability, Geometry, named}
use Rattle.image_describer.specs.Names.{BankEntry, Description, NodeEntry, PageEntry, ProcessEntry, SlotEntry}
use Rattle.image_describer.specs.Names.{WordEntry}
use Rattle.std.specs.Prelude.{◌≡◌, ◌^◌, ◌<◌}

-- a number that TOML has as an integer
abbrev pub IsShort : ℕ → Type 0
IsShort n = n < 2 ^ 63

-- a number of 64 bits
abbrev pub IsWide : ℕ → Type 0
IsWide n = n < 2 ^ 64

-- the capability names a number of 64 bits, or nothing
abbrev pub NamesWide : Option Capability → Type 0
NamesWide c = IfSome c (λ held. IfSome (named held) IsWide)

abbrev pub SpellsSlot : SlotEntry → Type 0
SpellsSlot s = IsShort s.index × NamesWide s.capability

abbrev pub SpellsWord : WordEntry → Type 0
SpellsWord w = IsShort w.index × IsWide w.word

abbrev pub SpellsRange : NumberRange → Type 0
SpellsRange r = IsShort r.first × IsShort r.count

abbrev pub SpellsBank : BankEntry → Type 0
SpellsBank b = IsShort b.number × IsShort b.owner × IsWide b.limit

pub record SpellsProcess (p : ProcessEntry) : Type 0 where
  pub numbers : IsShort p.root × IsShort p.annex × IsShort p.owner × IsShort p.key
  pub words : (length p.words ≡ 4) × All IsWide p.words
  pub space : NamesWide p.space
  pub registers : All SpellsSlot p.registers.items

abbrev pub SpellsNode : NodeEntry → Type 0
SpellsNode n = IsShort n.number × IsShort n.owner × All SpellsSlot n.slots.items

abbrev pub SpellsPage : PageEntry → Type 0
SpellsPage p = IsShort p.number × IsShort p.owner × All SpellsWord p.words.items

abbrev pub SpellsGeometry : Geometry → Type 0
SpellsGeometry g = IsShort g.nodes × IsShort g.pages × IsShort g.log

-- words, limits and numbers in capabilities have 64 bits; all other numbers are below 2^63
pub record CanBeSpelled (d : Description) : Type 0 where
  pub geometry : SpellsGeometry d.geometry
  pub layout : IsShort d.layout
  pub age : IsShort d.age
  pub ranges : All SpellsRange d.ranges.items
  pub banks : All SpellsBank d.banks.items
  pub processes : All SpellsProcess d.processes.items
  pub nodes : All SpellsNode d.nodes.items
  pub pages : All SpellsPage d.pages.items
