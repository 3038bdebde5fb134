-- Programs that run keep the relation too: they reach their own pages only.
-- Assumes nothing.
use Rattle.std.proofs.Common.{◌≡◌, ℕ, ◌<◌, Bool, T, List, ◌∷◌, Some, None, refl, ap, ◌∙◌, subst}
use mathlib.Core.Path.{subst⁻¹}
use Rattle.house.specs.declared.Call.{Call}
use Rattle.house.specs.Event.{Event, Asked, Loaded, Stored, Faulted, Poked}
use Rattle.house.specs.Machine.{Shown, Nothing, Frame, Registers, Hw, Runs, Comes, with_mem, allowed, put}
use Rattle.house.specs.Meaning.{Loan, Use, House, TableOf, Idle, Of, State, Quiet, Run, is_of, set_word}
use Rattle.house.specs.Simulation.{Begun}
use Rattle.house.specs.Sound.{Tables, view_of, SoundAt, Words, Shape, Same, Steady, Ran, ShownAt, ShowsRight, ShowsIn, is_page}
use Rattle.house.proofs.Facts.{put_elsewhere}
use Rattle.house.proofs.Memory.{words_put, other_frame, put_keeps}
use Rattle.house.proofs.Steps.{same_none, same_then, same_mem, step_same, shape_same, step_keeps, no_page_home}

pub runs_same : {h : Hw} {es : List Event} {j : Hw} {gs : List Event} → Runs h es j gs → Same h j
runs_same (Runs.rest h es) = same_none h
runs_same (Runs.device {h} {i} {j} {es} {fs} {gs} st onward) = same_then (step_same h fs i st) (runs_same onward)
runs_same (Runs.loads c v f k a b d e onward) = runs_same onward
runs_same (Runs.stores {h} {j} {es} {gs} c v f k x a b d y e onward) = same_then (same_mem (put f k x h.mem) h) (runs_same onward)
runs_same (Runs.pokes c v d a b e onward) = runs_same onward
runs_same (Runs.faults c v a b e onward) = runs_same onward

-- RAN
pub steady_ran : {can : Call → Bool} {start : State} {t : Tables} {s : State} {h j : Hw} {gs : List Event} → Steady can start t s Quiet h j gs → Ran can start t s h j gs
steady_ran {s = s} a =
    record { word = a.word; run = a.run; sound = a.sound; words = a.words; same = a.same; quiet = λ f k q. (a.quiet f k (no_page_home (s.what f) q)).0 }

pub ran_then :
    {can : Call → Bool} {start : State} {t : Tables} {s : State} {h i j : Hw} {fs gs : List Event} →
    (a : Ran can start t s h i fs) → Ran can start t (set_word a.word s) i j gs → Ran can start t s h j gs
ran_then a b =
    record { word = b.word; run = b.run; sound = b.sound; words = b.words; same = same_then a.same b.same; quiet = λ f k q. b.quiet f k q ∙ a.quiet f k q }

ran_none :
    {can : Call → Bool} {start : State} {t : Tables} {s : State} {es : List Event} (h : Hw) →
    SoundAt t (view_of s) h → Words (view_of s) s.word h.mem → Run can start es s Quiet → Ran can start t s h h es
ran_none {s = s} h sound words run = record { word = s.word; run = run; sound = sound; words = words; same = same_none h; quiet = λ f k q. refl }

-- somebody's page at a place
page_at : (c v : ℕ) (u : Use) → T (is_of c v u) → (w : ℕ) × (x : ℕ) × (l : Loan) × (u ≡ Of w x l)
unfolding is_of
page_at c v House h = absurd h
page_at c v (TableOf d) h = absurd h
page_at c v Idle h = absurd h
page_at c v (Of w x l) h = (w, x, l, refl)

is_page_at : (c v : ℕ) (u : Use) → T (is_of c v u) → T (is_page u)
unfolding is_of is_page
is_page_at c v House h = absurd h
is_page_at c v (TableOf d) h = absurd h
is_page_at c v Idle h = absurd h
is_page_at c v (Of w x l) h = tt

loaded :
    (can : Call → Bool) (start : State) (s : State) (es : List Event) (c v f k : ℕ) (mem : ℕ → ℕ → ℕ) →
    Words (view_of s) s.word mem → Run can start es s Quiet → k < 512 → ShowsRight s c v (Frame f) → Run can start (Loaded c v k (mem f k) ∷ es) s Quiet
unfolding ShowsIn
loaded can start s es c v f k mem words run b r =
    let u = page_at c v (s.what f) r.3 in
    let e = ap (λ (g : ℕ). s.word g k) r.1 ∙ words f u.0 u.1 k u.2 r.2 u.3 b in
    subst (λ (x : ℕ). Run can start (Loaded c v k x ∷ es) s Quiet) e (Run.loads c v k run r.0)

stored :
    (can : Call → Bool) (start : State) (t : Tables) (s : State) (es : List Event) (h : Hw) (c v f k x : ℕ) →
    SoundAt t (view_of s) h → Words (view_of s) s.word h.mem → Run can start es s Quiet → ShowsRight s c v (Frame f) → Ran can start t s h (with_mem (put f k x h.mem) h) (Stored c v k x ∷ es)
unfolding ShowsIn
stored can start t s es h c v f k x sound words run r =
    let p = is_page_at c v (s.what f) r.3 in
    record {
      word = put f k x s.word;
      run = subst (λ (g : ℕ). Run can start (Stored c v k x ∷ es) (set_word (put g k x s.word) s) Quiet) r.1 (Run.stores c v k x run r.0);
      sound = put_keeps f k x p sound;
      words = words_put (view_of s) s.word h.mem f k x words;
      same = same_mem (put f k x h.mem) h;
      quiet = λ g j q. put_elsewhere f k x h.mem g j (other_frame (view_of s) f g p q);
    }

poked : (can : Call → Bool) (start : State) (s : State) (es : List Event) (c v d : ℕ) → Run can start es s Quiet → ShowsRight s c v (Registers d) → Run can start (Poked c v d ∷ es) s Quiet
unfolding ShowsIn
poked can start s es c v d run r = Run.pokes c v d run r

faulted : (can : Call → Bool) (start : State) (s : State) (es : List Event) (c v : ℕ) → Run can start es s Quiet → ShowsRight s c v Nothing → Run can start (Faulted c v ∷ es) s Quiet
unfolding ShowsIn
faulted can start s es c v run r = Run.faults c v run r

-- what is shown, where the machine says what
shown_is : (s : State) (space : ℕ → ℕ → Shown) (c v : ℕ) (x : Shown) → ShownAt s space → c < 32 → v < 1024 → space c v ≡ x → ShowsRight s c v x
shown_is s space c v x shown a b e = subst (λ (y : Shown). ShowsRight s c v y) e (shown c v a b)

pub shown_same : (s : State) (h j : Hw) → ShownAt s h.space → Same h j → ShownAt s j.space
shown_same s h j shown q = subst⁻¹ (λ (y : ℕ → ℕ → Shown). ShownAt s y) q.space shown

pub runs_keep :
    {can : Call → Bool} {start : State} {t : Tables} {s : State} {h : Hw} {es : List Event} {j : Hw} {gs : List Event} →
    SoundAt t (view_of s) h → Words (view_of s) s.word h.mem → Shape s h → ShownAt s h.space → Run can start es s Quiet → Runs h es j gs → Ran can start t s h j gs
runs_keep sound words shape shown run (Runs.rest h es) = ran_none h sound words run
runs_keep {s = s} sound words shape shown run (Runs.device {h} {i} {j} {es} {fs} {gs} st onward) =
    let a = steady_ran (step_keeps sound words shape run st) in
    ran_then a (runs_keep {s = set_word a.word s} a.sound a.words (shape_same shape a.same) (shown_same s h i shown a.same) a.run onward)
runs_keep {can} {start} {s = s} sound words shape shown run (Runs.loads {h} {j} {es} {gs} c v f k a b d e onward) =
    runs_keep sound words shape shown (loaded can start s es c v f k h.mem words run d (shown_is s h.space c v (Frame f) shown a b e)) onward
runs_keep {can} {start} {t} {s} sound words shape shown run (Runs.stores {h} {j} {es} {gs} c v f k x a b d y e onward) =
    let r = stored can start t s es h c v f k x sound words run (shown_is s h.space c v (Frame f) shown a b e) in
    ran_then r (runs_keep {s = set_word r.word s} r.sound r.words shape shown r.run onward)
runs_keep {can} {start} {s = s} sound words shape shown run (Runs.pokes {h} {j} {es} {gs} c v d a b e onward) =
    runs_keep sound words shape shown (poked can start s es c v d run (shown_is s h.space c v (Registers d) shown a b e)) onward
runs_keep {can} {start} {s = s} sound words shape shown run (Runs.faults {h} {j} {es} {gs} c v a b e onward) =
    runs_keep sound words shape shown (faulted can start s es c v run (shown_is s h.space c v Nothing shown a b e)) onward

-- A CALL COMES, OR ALL IS OVER
pub record Came (h : Hw) (es : List Event) (who : ℕ) (c : Call) (j : Hw) (gs : List Event) : Type 0 where
  pub hw : Hw
  pub events : List Event
  pub small : who < 32
  pub runs : Runs h es hw events
  pub hw_is : j ≡ allowed 2048 hw
  pub events_are : gs ≡ (Asked who c ∷ events)

pub comes_some : {h : Hw} {es : List Event} {who : ℕ} {c : Call} {j : Hw} {gs : List Event} → Comes h es (Some (who, c)) j gs → Came h es who c j gs
comes_some (Comes.comes {j = i} {gs = fs} who c b r) = record { hw = i; events = fs; small = b; runs = r; hw_is = refl; events_are = refl }

pub comes_none : {h : Hw} {es : List Event} {j : Hw} {gs : List Event} → Comes h es None j gs → Runs h es j gs
comes_none (Comes.over r) = r

same_allowed : (n : ℕ) {h j : Hw} → Same h j → Same (allowed n h) (allowed n j)
same_allowed n a = record { frames = a.frames; devices = a.devices; group = a.group; driver = a.driver; space = a.space; live = a.live; left = refl }

pub comes_keep :
    {can : Call → Bool} {start : State} {t : Tables} {s : State} {h : Hw} {es : List Event} {who : ℕ} {c : Call} {j : Hw} {gs : List Event} →
    SoundAt t (view_of s) h → Words (view_of s) s.word h.mem → Shape s h → ShownAt s h.space → Run can start es s Quiet → Comes h es (Some (who, c)) j gs → Begun can start t s h who c j gs
comes_keep {s = s} sound words shape shown run (Comes.comes who c b r) =
    let a = runs_keep sound words shape shown run r in
    record { small = b; word = a.word; run = Run.asks who c a.run; sound = a.sound; words = a.words; same = same_allowed 2048 a.same; quiet = a.quiet }

pub over_keeps :
    {can : Call → Bool} {start : State} {t : Tables} {s : State} {h : Hw} {es : List Event} {j : Hw} {gs : List Event} →
    SoundAt t (view_of s) h → Words (view_of s) s.word h.mem → Shape s h → ShownAt s h.space → Run can start es s Quiet → Comes h es None j gs → Ran can start t s h j gs
over_keeps sound words shape shown run c = runs_keep sound words shape shown run (comes_none c)
