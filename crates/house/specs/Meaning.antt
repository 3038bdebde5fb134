-- The meaning of the calls: whose each frame is, when a call is refused, what it does when it takes effect, and which histories
-- are thereby explained. Nothing is assumed here.
use Rattle.std.specs.Prelude.{◌≡◌, ℕ, zero, suc, ◌/◌, ◌<◌, Bool, true, false, cond, not, ◌&&◌, ◌||◌, T, List, [], ◌∷◌, ◌==◌, nat_le, nat_lt}
use Rattle.house.specs.declared.Call.{Call}
use Rattle.house.specs.declared.Call.TheVariants.{Get, Free, Give, Open, Close, Regs, Lend, Recall, End}
use Rattle.house.specs.declared.Answer.{Answer}
use Rattle.house.specs.declared.Answer.TheVariants.{Done, Later, No}
use Rattle.house.specs.Event.{Event, Asked, Told, Loaded, Stored, Faulted, Poked, TookFrom, PutInto, Missed, Drained}

-- where a program's page is: at home, lent to device d at its page p (to be written or only read), or leaving it
pub data Loan : Type 0 where
  Home : Loan
  Lent : (d p : ℕ) → (writes : Bool) → Loan
  Leaving : (d p : ℕ) → (writes : Bool) → Loan

-- what a frame is used for: the keeper's own, a page table of a device, nothing, or a page of a program at a place
pub data Use : Type 0 where
  House : Use
  TableOf : (d : ℕ) → Use
  Idle : Use
  Of : (who v : ℕ) → Loan → Use

pub data Dev : Type 0 where
  Shut : Dev
  Opened : (who : ℕ) → Dev
  Closing : (who : ℕ) → Dev

-- slots d i: device d has a lower table for its pages 512 i to 512 i + 511; regs c v: which registers place v of c shows;
-- drained, undrained: the devices whose drain said yes, or no, since the current call was made
pub record State : Type 0 where
  pub frames : ℕ
  pub devices : ℕ
  pub group : ℕ → ℕ
  pub driver : ℕ → ℕ
  pub what : ℕ → Use
  pub word : ℕ → ℕ → ℕ
  pub dev : ℕ → Dev
  pub slots : ℕ → ℕ → Bool
  pub regs : ℕ → ℕ → ℕ
  pub drained : List ℕ
  pub undrained : List ℕ

unfoldable pub is_in : ℕ → List ℕ → Bool
is_in x [] = false
is_in x (y ∷ ys) = x == y || is_in x ys

unfoldable pub every : ℕ → (ℕ → Bool) → Bool
every zero p = true
every (suc n) p = every n p && p n

-- whether some number below n passes, and the least that does
unfoldable pub any : ℕ → (ℕ → Bool) → Bool
any zero f = false
any (suc n) f = any n f || f n

unfoldable pub first : ℕ → (ℕ → Bool) → ℕ
first zero f = 0
first (suc n) f = cond (any n f) (first n f) n

unfoldable pub is_of : ℕ → ℕ → Use → Bool
is_of c v House = false
is_of c v (TableOf d) = false
is_of c v Idle = false
is_of c v (Of w u l) = c == w && v == u

unfoldable pub is_idle : Use → Bool
is_idle House = false
is_idle (TableOf d) = false
is_idle Idle = true
is_idle (Of w u l) = false

unfoldable pub loan_of : Use → Loan
loan_of House = Home
loan_of (TableOf d) = Home
loan_of Idle = Home
loan_of (Of w u l) = l

unfoldable pub is_home : Loan → Bool
is_home Home = true
is_home (Lent d p w) = false
is_home (Leaving d p w) = false

-- the loan occupies page p of device d, also while leaving
unfoldable pub is_at : ℕ → ℕ → Loan → Bool
is_at d p Home = false
is_at d p (Lent e q w) = d == e && p == q
is_at d p (Leaving e q w) = d == e && p == q

unfoldable pub is_lent : ℕ → ℕ → Bool → Loan → Bool
is_lent d p w Home = false
is_lent d p w (Lent e q x) = d == e && p == q && (x || not w)
is_lent d p w (Leaving e q x) = false

-- device d may still touch the page at p (w: by a write)
unfoldable pub reaches : ℕ → ℕ → Bool → Loan → Bool
reaches d p w Home = false
reaches d p w (Lent e q x) = d == e && p == q && (x || not w)
reaches d p w (Leaving e q x) = d == e && p == q && (x || not w)

unfoldable pub owner_is : ℕ → Dev → Bool
owner_is c Shut = false
owner_is c (Opened w) = c == w
owner_is c (Closing w) = c == w

unfoldable pub open_by : ℕ → Dev → Bool
open_by c Shut = false
open_by c (Opened w) = c == w
open_by c (Closing w) = false

unfoldable pub is_shut : Dev → Bool
is_shut Shut = true
is_shut (Opened w) = false
is_shut (Closing w) = false

abbrev pub has : State → ℕ → ℕ → Bool
has s c v = any s.frames (λ (f : ℕ). is_of c v (s.what f))

abbrev pub frame_of : State → ℕ → ℕ → ℕ
frame_of s c v = first s.frames (λ (f : ℕ). is_of c v (s.what f))

abbrev pub loan : State → ℕ → ℕ → Loan
loan s c v = loan_of (s.what (frame_of s c v))

-- place v of c shows a page or registers; regs is 0 for none, else the device plus 1
abbrev pub taken : State → ℕ → ℕ → Bool
taken s c v = has s c v || not (s.regs c v == 0)

abbrev pub idle : State → ℕ → Bool
idle s f = nat_lt f s.frames && is_idle (s.what f)

abbrev pub full : State → Bool
full s = not (any s.frames (λ (f : ℕ). is_idle (s.what f)))

-- a device of d's group is held by a program other than c
abbrev pub foreign : State → ℕ → ℕ → Bool
foreign s c d = any s.devices (λ (e : ℕ). (s.group e == s.group d) && not (is_shut (s.dev e)) && not (owner_is c (s.dev e)))

abbrev pub used : State → ℕ → ℕ → Bool
used s d p = any s.frames (λ (f : ℕ). is_at d p (loan_of (s.what f)))

-- The number by which a call is refused, 0 if it is not: of the reasons that apply, the first in the order written.
abbrev pub or_else : Bool → ℕ → ℕ → ℕ
or_else b k rest = cond b k rest

unfoldable pub why : State → ℕ → Call → ℕ
why s c (Get v) = or_else (nat_le 1024 v) 1 (or_else (taken s c v) 3 (or_else (full s) 7 0))
why s c (Free v) = or_else (nat_le 1024 v) 1 (or_else (not (has s c v)) 2 (or_else (not (is_home (loan s c v))) 4 0))
why s c (Give v to at) = or_else (nat_le 1024 v || nat_le 32 to || nat_le 1024 at) 1 (or_else (not (has s c v)) 2 (or_else (taken s to at) 3 (or_else (not (is_home (loan s c v))) 4 0)))
why s c (Open d) = or_else (nat_le s.devices d) 1 (or_else (not (s.driver d == c)) 5 (or_else (not (is_shut (s.dev d)) || foreign s c d) 6 (or_else (full s) 7 0)))
why s c (Close d) = or_else (nat_le s.devices d) 1 (or_else (not (owner_is c (s.dev d))) 5 0)
why s c (Regs d v) = or_else (nat_le s.devices d || nat_le 1024 v) 1 (or_else (taken s c v) 3 (or_else (not (open_by c (s.dev d))) 5 0))
why s c (Lend v d p w) =
    or_else (nat_le 1024 v || nat_le s.devices d || nat_le 262144 p) 1 (or_else (not (has s c v)) 2 (or_else (used s d p) 3 (or_else (not (is_home (loan s c v))) 4
    (or_else (not (open_by c (s.dev d))) 5 (or_else (not (s.slots d (p / 512)) && full s) 7 0)))))
why s c (Recall v) = or_else (nat_le 1024 v) 1 (or_else (not (has s c v)) 2 (or_else (is_home (loan s c v)) 4 0))
why s c (End w) = or_else (nat_le 32 w) 1 (or_else (not (c == 0)) 8 0)

-- one field of the state replaced
abbrev pub set_use : (ℕ → Use) → State → State
set_use u s = record { frames = s.frames; devices = s.devices; group = s.group; driver = s.driver; what = u; word = s.word; dev = s.dev; slots = s.slots; regs = s.regs; drained = s.drained; undrained = s.undrained }

abbrev pub set_dev : (ℕ → Dev) → State → State
set_dev d s = record { frames = s.frames; devices = s.devices; group = s.group; driver = s.driver; what = s.what; word = s.word; dev = d; slots = s.slots; regs = s.regs; drained = s.drained; undrained = s.undrained }

abbrev pub set_slots : (ℕ → ℕ → Bool) → State → State
set_slots x s = record { frames = s.frames; devices = s.devices; group = s.group; driver = s.driver; what = s.what; word = s.word; dev = s.dev; slots = x; regs = s.regs; drained = s.drained; undrained = s.undrained }

abbrev pub set_regs : (ℕ → ℕ → ℕ) → State → State
set_regs r s = record { frames = s.frames; devices = s.devices; group = s.group; driver = s.driver; what = s.what; word = s.word; dev = s.dev; slots = s.slots; regs = r; drained = s.drained; undrained = s.undrained }

abbrev pub set_word : (ℕ → ℕ → ℕ) → State → State
set_word m s = record { frames = s.frames; devices = s.devices; group = s.group; driver = s.driver; what = s.what; word = m; dev = s.dev; slots = s.slots; regs = s.regs; drained = s.drained; undrained = s.undrained }

abbrev pub set_drains : List ℕ → List ℕ → State → State
set_drains a b s = record { frames = s.frames; devices = s.devices; group = s.group; driver = s.driver; what = s.what; word = s.word; dev = s.dev; slots = s.slots; regs = s.regs; drained = a; undrained = b }

abbrev pub use_at : ℕ → Use → (ℕ → Use) → ℕ → Use
use_at f u g j = cond (j == f) u (g j)

-- an idle frame becomes a page, with 0 in every word
abbrev pub gets : ℕ → ℕ → ℕ → State → State
gets c v f s = set_word (λ g k. cond (g == f) 0 (s.word g k)) (set_use (use_at f (Of c v Home) s.what) s)

unfoldable pub leaving : Loan → Loan
leaving Home = Home
leaving (Lent d p w) = Leaving d p w
leaving (Leaving d p w) = Leaving d p w

unfoldable pub home_from : ℕ → Loan → Loan
home_from d Home = Home
home_from d (Lent e p w) = cond (d == e) Home (Lent e p w)
home_from d (Leaving e p w) = cond (d == e) Home (Leaving e p w)

unfoldable pub leaving_from : ℕ → Loan → Loan
leaving_from d Home = Home
leaving_from d (Lent e p w) = cond (d == e) (Leaving e p w) (Lent e p w)
leaving_from d (Leaving e p w) = Leaving e p w

unfoldable pub map_loan : (Loan → Loan) → Use → Use
map_loan f House = House
map_loan f (TableOf d) = TableOf d
map_loan f Idle = Idle
map_loan f (Of c v l) = Of c v (f l)

unfoldable pub no_table : ℕ → Use → Use
no_table d House = House
no_table d (TableOf e) = cond (d == e) Idle (TableOf e)
no_table d Idle = Idle
no_table d (Of c v l) = Of c v l

-- closing is complete: loans to d are over, its tables are idle, its registers are not shown anywhere
abbrev pub shut : ℕ → State → State
shut d s =
    set_regs (λ c v. cond (s.regs c v == suc d) 0 (s.regs c v)) (set_slots (λ e i. s.slots e i && not (e == d))
    (set_dev (λ e. cond (e == d) Shut (s.dev e)) (set_use (λ f. no_table d (map_loan (home_from d) (s.what f))) s)))

unfoldable pub closing : Dev → Dev
closing Shut = Shut
closing (Opened w) = Closing w
closing (Closing w) = Closing w

-- closing has begun: what was lent to d is leaving, its registers are not shown anywhere
abbrev pub shutting : ℕ → State → State
shutting d s =
    set_regs (λ c v. cond (s.regs c v == suc d) 0 (s.regs c v)) (set_dev (λ e. cond (e == d) (closing (s.dev e)) (s.dev e)) (set_use (λ f. map_loan (leaving_from d) (s.what f)) s))

-- each device below n that c holds is closed, as far as its drain allows
unfoldable pub shut_all : ℕ → ℕ → State → State
shut_all zero c s = s
shut_all (suc n) c s = cond (owner_is c (s.dev n)) (cond (is_in n s.drained) (shut n (shut_all n c s)) (shutting n (shut_all n c s))) (shut_all n c s)

unfoldable pub all_drained : ℕ → ℕ → State → Bool
all_drained zero c s = true
all_drained (suc n) c s = (not (owner_is c (s.dev n)) || is_in n s.drained) && all_drained n c s

unfoldable pub not_of : ℕ → Use → Use
not_of c House = House
not_of c (TableOf d) = TableOf d
not_of c Idle = Idle
not_of c (Of w v l) = cond (c == w) Idle (Of w v l)

unfoldable pub device_of : Loan → ℕ
device_of Home = 0
device_of (Lent d p w) = d
device_of (Leaving d p w) = d

-- The effect of a call and its answer; f is the idle frame that it takes, if it takes one. A call that waits for a device is Done
-- where that device was drained with yes during the call, else Later.
pub record Out : Type 0 where
  pub answer : Answer
  pub state : State

abbrev pub out : Answer → State → Out
out a s = record { answer = a; state = s }

abbrev pub fails : State → ℕ → Call → Bool
fails s c k = not (why s c k == 0)

unfoldable pub acts : ℕ → State → ℕ → Call → Out
acts f s c (Get v) = out Done (gets c v f s)
acts f s c (Free v) = out Done (set_use (use_at (frame_of s c v) Idle s.what) s)
acts f s c (Give v to at) = out Done (set_use (use_at (frame_of s c v) (Of to at Home) s.what) s)
acts f s c (Open d) = out Done (set_dev (λ e. cond (e == d) (Opened c) (s.dev e)) (set_use (use_at f (TableOf d) s.what) s))
acts f s c (Close d) = cond (is_in d s.drained) (out Done (shut d s)) (out Later (shutting d s))
acts f s c (Regs d v) = out Done (set_regs (λ w u. cond (w == c && u == v) (suc d) (s.regs w u)) s)
acts f s c (Lend v d p w) =
    cond (s.slots d (p / 512))
    (out Done (set_use (use_at (frame_of s c v) (Of c v (Lent d p w)) s.what) s))
    (out Done (set_slots (λ e i. s.slots e i || (e == d && i == p / 512)) (set_use (use_at f (TableOf d) (use_at (frame_of s c v) (Of c v (Lent d p w)) s.what)) s)))
acts f s c (Recall v) =
    cond (is_in (device_of (loan s c v)) s.drained)
    (out Done (set_use (use_at (frame_of s c v) (Of c v Home) s.what) s))
    (out Later (set_use (use_at (frame_of s c v) (Of c v (leaving (loan s c v))) s.what) s))
acts f s c (End w) =
    cond (all_drained s.devices w s)
    (out Done (set_use (λ g. not_of w ((shut_all s.devices w s).what g)) (shut_all s.devices w s)))
    (out Later (shut_all s.devices w s))

-- whether the call takes an idle frame
unfoldable pub takes_frame : State → Call → Bool
takes_frame s (Get v) = true
takes_frame s (Free v) = false
takes_frame s (Give v to at) = false
takes_frame s (Open d) = true
takes_frame s (Close d) = false
takes_frame s (Regs d v) = false
takes_frame s (Lend v d p w) = not (s.slots d (p / 512))
takes_frame s (Recall v) = false
takes_frame s (End w) = false

-- a call that waits for a device takes effect only after a drain of that device has answered in this call
unfoldable pub excused : State → ℕ → Call → Bool
excused s c (Get v) = true
excused s c (Free v) = true
excused s c (Give v to at) = true
excused s c (Open d) = true
excused s c (Close d) = is_in d s.drained || is_in d s.undrained
excused s c (Regs d v) = true
excused s c (Lend v d p w) = true
excused s c (Recall v) = is_in (device_of (loan s c v)) s.drained || is_in (device_of (loan s c v)) s.undrained
excused s c (End w) = every s.devices (λ (n : ℕ). not (owner_is w (s.dev n)) || is_in n s.drained || is_in n s.undrained)

unfoldable pub is_later : Answer → Bool
is_later Done = false
is_later Later = true
is_later (No k) = false

-- Later may be told only if the call, done again now, would still be Later
abbrev pub may_tell : State → ℕ → Call → Answer → Bool
may_tell s c k a = not (is_later a) || is_later (acts 0 s c k).answer

-- between calls; a call made but not yet in effect; a call in effect, its answer not yet told
pub data Now : Type 0 where
  Quiet : Now
  Under : (who : ℕ) → Call → Now
  Over : (who : ℕ) → Call → Answer → Now

-- what a call that waits may do beforehand: the pages that it is to bring home are leaving
unfoldable pub loosens : State → ℕ → Call → State
loosens s c (Get v) = s
loosens s c (Free v) = s
loosens s c (Give v to at) = s
loosens s c (Open d) = s
loosens s c (Close d) = set_use (λ f. map_loan (leaving_from d) (s.what f)) s
loosens s c (Regs d v) = s
loosens s c (Lend v d p w) = s
loosens s c (Recall v) = set_use (use_at (frame_of s c v) (Of c v (leaving (loan s c v))) s.what) s
loosens s c (End w) = set_use (λ f. map_loan (λ l. cond (any s.devices (λ (d : ℕ). owner_is w (s.dev d) && d == device_of l)) (leaving l) l) (s.what f)) s

abbrev pub told_drain : ℕ → Bool → State → State
told_drain d b s = cond b (set_drains (d ∷ s.drained) s.undrained s) (set_drains s.drained (d ∷ s.undrained) s)

-- the calls that are built first, and all calls
unfoldable pub core : Call → Bool
core (Get v) = true
core (Free v) = true
core (Give v to at) = false
core (Open d) = true
core (Close d) = true
core (Regs d v) = false
core (Lend v d p w) = true
core (Recall v) = true
core (End w) = false

unfoldable pub all : Call → Bool
all (Get v) = true
all (Free v) = true
all (Give v to at) = true
all (Open d) = true
all (Close d) = true
all (Regs d v) = true
all (Lend v d p w) = true
all (Recall v) = true
all (End w) = true

abbrev pub at_start : (frames devices : ℕ) → (group driver : ℕ → ℕ) → ℕ → State
at_start n m g d kept =
    record { frames = n; devices = m; group = g; driver = d; what = λ f. cond (nat_lt f kept) House Idle; word = λ f k. 0; dev = λ e. Shut; slots = λ e i. false; regs = λ c v. 0; drained = []; undrained = [] }

-- Explained histories, the newest event first, with the state that they lead to.
pub data Run (can : Call → Bool) (start : State) : List Event → State → Now → Type 0 where
  begin : Run can start [] start Quiet
  asks : {es : List Event} {s : State} (c : ℕ) (k : Call) → Run can start es s Quiet → Run can start (Asked c k ∷ es) (set_drains [] [] s) (Under c k)
  -- what happens within the keeper and makes no event
  loosened : {es : List Event} {s : State} {c : ℕ} {k : Call} → Run can start es s (Under c k) → T (can k) → why s c k ≡ 0 → Run can start es (loosens s c k) (Under c k)
  acted : {es : List Event} {s : State} {c : ℕ} {k : Call} (f : ℕ) → Run can start es s (Under c k) → T (can k) → why s c k ≡ 0 → T (not (takes_frame s k) || idle s f) → T (excused s c k) →
      Run can start es (acts f s c k).state (Over c k (acts f s c k).answer)
  refused : {es : List Event} {s : State} {c : ℕ} {k : Call} → Run can start es s (Under c k) → T (can k) → 0 < why s c k → Run can start es s (Over c k (No (why s c k)))
  not_built : {es : List Event} {s : State} {c : ℕ} {k : Call} → Run can start es s (Under c k) → T (not (can k)) → Run can start es s (Over c k (No 9))
  tells : {es : List Event} {s : State} {c : ℕ} {k : Call} {a : Answer} → Run can start es s (Over c k a) → T (may_tell s c k a) → Run can start (Told c k a ∷ es) s Quiet
  -- programs: only at places that show what the state has there
  loads : {es : List Event} {s : State} (c v k : ℕ) → Run can start es s Quiet → T (has s c v) → Run can start (Loaded c v k (s.word (frame_of s c v) k) ∷ es) s Quiet
  stores : {es : List Event} {s : State} (c v k x : ℕ) → Run can start es s Quiet → T (has s c v) → Run can start (Stored c v k x ∷ es) (set_word (λ g j. cond (g == frame_of s c v && j == k) x (s.word g j)) s) Quiet
  pokes : {es : List Event} {s : State} (c v d : ℕ) → Run can start es s Quiet → s.regs c v ≡ suc d → Run can start (Poked c v d ∷ es) s Quiet
  faults : {es : List Event} {s : State} (c v : ℕ) → Run can start es s Quiet → T (not (taken s c v)) → Run can start (Faulted c v ∷ es) s Quiet
  -- devices: only pages that are lent to them or leaving; a miss only where none is lent
  took : {es : List Event} {s : State} {n : Now} (d p f k : ℕ) → Run can start es s n → f < s.frames → T (reaches d p false (loan_of (s.what f))) → Run can start (TookFrom d p f k (s.word f k) ∷ es) s n
  puts : {es : List Event} {s : State} {n : Now} (d p f k x : ℕ) → Run can start es s n → f < s.frames → T (reaches d p true (loan_of (s.what f))) →
      Run can start (PutInto d p f k x ∷ es) (set_word (λ e j. cond (e == f && j == k) x (s.word e j)) s) n
  misses : {es : List Event} {s : State} {n : Now} (d p : ℕ) (w : Bool) → Run can start es s n → T (not (any s.frames (λ (f : ℕ). is_lent d p w (loan_of (s.what f))))) → Run can start (Missed d p w ∷ es) s n
  drains : {es : List Event} {s : State} {n : Now} (d : ℕ) (b : Bool) → Run can start es s n → Run can start (Drained d b ∷ es) (told_drain d b s) n

abbrev pub Explained : (Call → Bool) → State → List Event → Type 0
Explained can start es = (s : State) × (n : Now) × Run can start es s n
