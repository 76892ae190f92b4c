-- The rectangles of banks.
use Rattle.image_drawer.proofs.Names.{ℕ, List, [], ap, append-nil, append_assoc, arith, codes, decimal, refl, sym, Geometry, Object, World}
use Rattle.image_drawer.proofs.Names.{owner_at}
use Rattle.std.proofs.Common.{◌≡◌, ◌≢◌, ◌-◌, ◌∷◌, ◌++◌, ◌∙◌, suc, zero}
use Rattle.std.proofs.lemmas.Bool.{ne_eqb}
use Rattle.model.specs.Bank.{chain, chain_within}
use Rattle.model.specs.Sound.{IsSound}
use Rattle.model_laws.proofs.BankTree.{IsTree, chain_prime, chain_unfolds}
use Rattle.image_drawer.specs.Rectangles.{ends, starts}
use Rattle.image_drawer.specs.Graph.{in_rectangle, in_rectangles, owner_line, rectangle_end, rectangle_start}
use Rattle.image_drawer.specs.Laws.{AreNested, RectanglesNest}

-- five texts in two groupings
grouped : (a f t e z : List ℕ) → (a ++ ((f ++ t) ++ e)) ++ z ≡ ((a ++ f) ++ t) ++ (e ++ z)
grouped a f t e z = simp append_assoc

-- a text in rectangles: all starts come first, and all ends last
pub rectangles_written : (bs text : List ℕ) → in_rectangles bs text ≡ (starts bs ++ text) ++ ends bs
rectangles_written [] text = sym (append-nil text)
rectangles_written (b ∷ bs) text = rectangles_written bs (in_rectangle b text)
    ∙ grouped (starts bs) (rectangle_start b) text rectangle_end (ends bs)

-- the line of an owned object in four pieces
pub line_pieces : (os : List Object) (owner number : ℕ) → owner_line os (owner, number) ≡
    ((starts (chain_within 16 os owner) ++ decimal number) ++ ends (chain_within 16 os owner)) ++ codes "\n"
unfolding owner_line chain
line_pieces os owner number = ap (λ (t : List ℕ). t ++ codes "\n") (rectangles_written (chain_within 16 os owner) (decimal number))

-- a chain that may have a bank begins with the bank; its owner's chain follows, if it isn't bank 0
pub chain_first : (os : List Object) (most b : ℕ) → most ≢ 0 → (rest : List ℕ) × (chain_within most os b ≡ b ∷ rest)
chain_first os zero b some = absurd (some refl)
chain_first os (suc k) b some = (_, refl)

chain_on : (os : List Object) (most b : ℕ) → most ≢ 0 → b ≢ 0 →
    chain_within most os b ≡ b ∷ chain_within (most - 1) os (owner_at os b)
chain_on os zero b some on = absurd (some refl)
chain_on os (suc k) b some on = let less : suc k - 1 ≡ k = omega arith in rw (ne_eqb b 0 on, less) refl

pub starts_on : (os : List Object) (most b : ℕ) → most ≢ 0 → b ≢ 0 →
    starts (chain_within most os b) ≡ starts (chain_within (most - 1) os (owner_at os b)) ++ rectangle_start b
starts_on os most b some on = ap starts (chain_on os most b some on)

pub ends_on : (os : List Object) (most b : ℕ) → most ≢ 0 → b ≢ 0 →
    ends (chain_within most os b) ≡ rectangle_end ++ ends (chain_within (most - 1) os (owner_at os b))
ends_on os most b some on = ap ends (chain_on os most b some on)

-- the owners of banks in a sound world are a tree
sound_tree : (g : Geometry) (w : World) → IsSound g w → IsTree w.objects
sound_tree g w s = record { unowned = s.unowned; owners = s.owners; prime = s.prime; chains = s.chains }

pub rectangles_nest : RectanglesNest
rectangles_nest g w s = record {
  outermost = λ text. ap (λ (bs : List ℕ). in_rectangles bs text) (chain_prime w.objects);
  nested = λ b text is on. ap (λ (bs : List ℕ). in_rectangles bs text) (chain_unfolds w.objects (sound_tree g w s) b is on);
}
