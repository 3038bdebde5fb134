-- The language of scripts: which bytes write which line.
use Rattle.std.specs.Prelude.{◌≡◌, ℕ, ◌≤◌, Bool, cond, List, [], ◌∷◌, length, Some, codes}
use Rattle.script.specs.Decimal.{index_of, exact_of}
use Rattle.script.specs.Spaces.{words_of}
use Rattle.script.specs.declared.forms.Line.{Line}
use Rattle.script.specs.declared.forms.Line.TheVariants.{Call, Store, Load, Read, Write, Keep, Kept, Refuse, Seed, New}
use Rattle.script.specs.declared.forms.Request.{Request}
use Rattle.script.specs.declared.forms.Request.TheVariants.{Get, Free, Give, Open, Close, Regs, Lend, Recall, End}

-- A word of a line: a text as it stands, a number that is cut off at 2^32 - 1, or a number below 2^64.
pub data Part : Type 0 where
  text : List ℕ → Part
  index : ℕ → Part
  exact : ℕ → Part

abbrev pub access : Bool → List ℕ
access writes = cond writes (codes "w") (codes "r")

abbrev pub request_parts : Request → List Part
request_parts (Get v) = text (codes "get") ∷ index v ∷ []
request_parts (Free v) = text (codes "free") ∷ index v ∷ []
request_parts (Give v to at) = text (codes "give") ∷ index v ∷ index to ∷ index at ∷ []
request_parts (Open d) = text (codes "open") ∷ index d ∷ []
request_parts (Close d) = text (codes "close") ∷ index d ∷ []
request_parts (Regs d v) = text (codes "regs") ∷ index d ∷ index v ∷ []
request_parts (Lend v d p writes) = text (codes "lend") ∷ index v ∷ index d ∷ index p ∷ text (access writes) ∷ []
request_parts (Recall v) = text (codes "recall") ∷ index v ∷ []
request_parts (End who) = text (codes "end") ∷ index who ∷ []

abbrev pub parts_of : Line → List Part
parts_of (Call who request) = index who ∷ request_parts request
parts_of (Store who v word x) = index who ∷ text (codes "store") ∷ index v ∷ index word ∷ exact x ∷ []
parts_of (Load who v word) = index who ∷ text (codes "load") ∷ index v ∷ index word ∷ []
parts_of (Read d p word) = text (codes "dev") ∷ index d ∷ text (codes "read") ∷ index p ∷ index word ∷ []
parts_of (Write d p word x) = text (codes "dev") ∷ index d ∷ text (codes "write") ∷ index p ∷ index word ∷ exact x ∷ []
parts_of (Keep d p) = text (codes "keep") ∷ index d ∷ index p ∷ []
parts_of (Kept d p word x) = text (codes "kept") ∷ index d ∷ index p ∷ text (codes "write") ∷ index word ∷ exact x ∷ []
parts_of (Refuse n) = text (codes "no") ∷ exact n ∷ []
parts_of (Seed s) = text (codes "seed") ∷ exact s ∷ []
parts_of New = text (codes "new") ∷ []

abbrev pub Fits : Part → List ℕ → Type 0
Fits (text t) w = w ≡ t
Fits (index n) w = index_of w ≡ Some n
Fits (exact n) w = exact_of w ≡ Some n

-- Word for word, and as many.
abbrev pub Written : List Part → List (List ℕ) → Type 0
Written [] [] = Unit {0}
Written [] (w ∷ ws) = ⊥
Written (p ∷ ps) [] = ⊥
Written (p ∷ ps) (w ∷ ws) = Fits p w × Written ps ws

abbrev pub Writes : Line → List ℕ → Type 0
Writes l bs = (length bs ≤ 256) × Written (parts_of l) (words_of bs)
