-- The frame that bytes decode to, whether or not they encode one.
use Rattle.layout.specs.Names.{ℕ, zero, suc, nat_lt, List, [], drop, Cap, Frame, ObjectHeader, Geometry}
use Rattle.std.specs.Prelude.{◌/◌, ◌%◌, if◌then◌else◌, ◌∷◌}
use Rattle.layout.specs.Bytes.{number_from}
use Rattle.layout.specs.Capability.{assembled}
use Rattle.layout.specs.Frame.{role_in, body_in, page_body_in, content_of}

-- the capability with this head and the numbers after it
abbrev pub cap_with : ℕ → ℕ → ℕ → Cap
cap_with head object count = record {
  what = assembled (head % 256) (record { 0 = head / 256 % 256 }) (head / 65536 % 65536) (head / 4294967296 % 256)
      object;
  count = count;
}

-- the capability that the first 24 bytes decode to
unfoldable pub cap_from : List ℕ → Cap
cap_from bytes = cap_with (number_from bytes) (number_from (drop 8 bytes)) (number_from (drop 16 bytes))

-- the first n capabilities that the bytes decode to
unfoldable pub slots_from : ℕ → List ℕ → List Cap
slots_from zero bytes = []
slots_from (suc n) bytes = cap_from bytes ∷ slots_from n (drop 24 bytes)

-- the first n words that the bytes decode to
unfoldable pub words_from : ℕ → List ℕ → List ℕ
words_from zero bytes = []
words_from (suc n) bytes = number_from bytes ∷ words_from n (drop 8 bytes)

-- the header that the front of a frame decodes to
unfoldable pub header_from : List ℕ → ObjectHeader
header_from bytes = record {
  role = role_in (number_from bytes);
  allocations = number_from (drop 8 bytes);
  calls = number_from (drop 16 bytes);
  owner = number_from (drop 24 bytes);
}

-- the frame that 1024 bytes of a node decode to, and that 4608 bytes of a page decode to
abbrev pub node_from : List ℕ → Frame
node_from bytes = record {
  header = header_from bytes;
  content = content_of (body_in (number_from bytes) (slots_from 32 (drop 32 bytes))) (slots_from 32 (drop 32 bytes)) [];
}

abbrev pub page_from : List ℕ → Frame
page_from bytes = record {
  header = header_from bytes;
  content = content_of (page_body_in (number_from bytes)) []
      (words_from 512 (drop 512 bytes));
}

-- the frame that the bytes of an object decode to
unfoldable pub frame_from : Geometry → ℕ → List ℕ → Frame
frame_from g object bytes = if nat_lt object g.nodes then node_from bytes else page_from bytes
