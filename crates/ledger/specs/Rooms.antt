-- What a room says, and what becomes of it.
use Rattle.std.specs.Prelude.{◌≡◌, length}
use Rattle.ledger.specs.declared.room.Room.{Room}
use Rattle.ledger.specs.View.{View, view_of}

abbrev pub says : Room → View
says r = view_of r.frames r.words.now

-- the same lent words, as many, kept for as many frames
abbrev pub Same : Room → Room → Type 0
Same r q = (q.frames ≡ r.frames) × (q.words.ghost_name ≡ r.words.ghost_name) × (length q.words.now ≡ length r.words.now)

-- The room q is what room r has become: the same lent words, as many, kept for as many frames, and now they say s.
abbrev pub Becomes : Room → View → Room → Type 0
Becomes r s q = (q.frames ≡ r.frames) × (q.words.ghost_name ≡ r.words.ghost_name) × (view_of r.frames q.words.now ≡ s) × (length q.words.now ≡ length r.words.now)
