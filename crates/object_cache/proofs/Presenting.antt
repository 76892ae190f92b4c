-- Edits of present objects, in the terms of `capability`.
use Rattle.object_cache.proofs.Names.{List, length, refl, Cap, ObjectHeader, Content, Bool, Becomes, Image, Disk, StoreState, IsAnnouncedIn, arith, IsFetchedIn}
use Rattle.object_cache.proofs.Names.{parts_of, ContinuesIn, continues_same, set, length-set, ℕ}
use Rattle.std.proofs.Common.{◌≡◌}

module _ {D : Type 0} (all : Bool) (disk : D → Disk)
    (only_now : (d : D) (c : Image) → (disk d).left_since (disk d).moment c → (disk d).may_leave c) (s t : StoreState D) where
  abbrev Edits : List ObjectHeader → List (Content Cap) → Type 0
  Edits hs cs = Becomes (parts_of disk) IsFetchedIn IsAnnouncedIn (ContinuesIn all disk) s t
      (record (parts_of disk s) { headers = hs; contents = cs })

  becomes : {hs : List ObjectHeader} {cs : List (Content Cap)} → t ≡ record s { headers = hs; contents = cs } →
      length hs ≡ length s.headers → length cs ≡ length s.contents → Edits hs cs
  becomes {hs} {cs} is header_count content_count =
      let same = continues_same disk all only_now s in
      search (arith, is, header_count, content_count)

  -- replacing an object's content is an edit
  pub becomes_held : (n : ℕ) (c : Content Cap) → t ≡ record s { contents = set s.contents n c } → Edits s.headers (set s.contents n c)
  becomes_held n c is = becomes is refl (length-set s.contents n c)

  -- replacing an object's header is an edit
  pub becomes_header : (n : ℕ) (h : ObjectHeader) → t ≡ record s { headers = set s.headers n h } → Edits (set s.headers n h) s.contents
  becomes_header n h is = becomes is (length-set s.headers n h) refl

  -- replacing an object's header and content is an edit
  pub becomes_both : (n : ℕ) (h : ObjectHeader) (c : Content Cap) → t ≡ record s
      { headers = set s.headers n h; contents = set s.contents n c } → Edits (set s.headers n h) (set s.contents n c)
  becomes_both n h c is = becomes is (length-set s.headers n h) (length-set s.contents n c)
