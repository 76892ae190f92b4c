-- Rectangles of banks as they are written: all starts, then all ends.
use Rattle.image_drawer.specs.Names.{ℕ, List, []}
use Rattle.std.specs.Prelude.{◌∷◌, ◌++◌}
use Rattle.image_drawer.specs.Graph.{rectangle_start, rectangle_end}

-- the starts of the rectangles of banks, that of the last bank first; their ends
abbrev pub starts : List ℕ → List ℕ
starts [] = []
starts (b ∷ bs) = starts bs ++ rectangle_start b

abbrev pub ends : List ℕ → List ℕ
ends [] = []
ends (b ∷ bs) = rectangle_end ++ ends bs
