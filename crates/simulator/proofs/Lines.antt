-- What lines of a script do: programs run, and what is heard of it.
use Rattle.std.proofs.Common.{◌≡◌, ℕ, ◌+◌, ◌*◌, ◌<◌, ◌∷◌, ◌⊎◌, inl, inr, List, length, set, map, Some, Option, Result, Ok, Err, IsErr, sym, ap, refl, subst, ◌∙◌}
use Rattle.std.proofs.lemmas.Bool.{false≢true}
use Rattle.house.specs.declared.Call.{Call}
use Rattle.house.specs.Event.{Event, Loaded}
use Rattle.house.specs.Machine.{Hw, Steps, none, more, Runs, rest, device, loads, stores, pokes, faults, Comes, comes, over, allowed, Nothing, Registers, with_mem, put}
use Rattle.script.specs.declared.forms.Line.{Line}
use Rattle.script.specs.declared.forms.Line.TheVariants as line
use Rattle.script.specs.declared.outcomes.Outcome.{Outcome}
use Rattle.script.specs.declared.outcomes.Outcome.TheVariants as say
use Rattle.simulator.specs.declared.events.Event.{Event as Note}
use Rattle.simulator.specs.declared.events.Event.TheVariants as note
use Rattle.simulator.specs.declared.refused.Refused.{Refused}
use Rattle.simulator.specs.declared.refused.Refused.TheVariants.{OutOfRange, NoRoom, NoFrame, ReadOnly}
use Rattle.simulator.specs.declared.replies.Reply.{Reply}
use Rattle.simulator.specs.declared.replies.Reply.TheVariants.{Says, Quiet}
use Rattle.simulator.specs.declared.sim.Ended.{Ended}
use Rattle.simulator.specs.Turns.{Turned}
use Rattle.simulator.specs.Notes.{event_of}
use Rattle.simulator.specs.Store.{mem_of, space_of}
use Rattle.simulator.specs.Parts.{Parts, hw_of, seen_of, Goes, Ran, noted}
use Rattle.simulator.specs.Effects.{Same}
use Rattle.simulator.specs.Refusals.{refusal_of}
use Rattle.simulator.specs.Heard as heard
use Rattle.simulator.specs.Heard.{Heard, Replied, reply_of, said_of}
use Rattle.simulator.specs.Shows.{Showed}
use Rattle.simulator.proofs.Asked.{written}
use Rattle.simulator.proofs.Accesses.{noted_written}

pub steps_run : {h i j : Hw} {es fs gs : List Event} → Steps h es i fs → Runs i fs j gs → Runs h es j gs
steps_run (none h es) r = r
steps_run (more s t) r = device s (steps_run t r)

pub runs_then : {h i j : Hw} {es fs gs : List Event} → Runs h es i fs → Runs i fs j gs → Runs h es j gs
runs_then (rest h es) b = b
runs_then (device s r) b = device s (runs_then r b)
runs_then (loads c v f k a d e g r) b = loads c v f k a d e g (runs_then r b)
runs_then (stores c v f k x a d e g i r) b = stores c v f k x a d e g i (runs_then r b)
runs_then (pokes c v d a e g r) b = pokes c v d a e g (runs_then r b)
runs_then (faults c v a d e r) b = faults c v a d e (runs_then r b)

pub goes_ran : (p q : Parts) → Goes p q → Ran p q
goes_ran p q g = steps_run g (rest (hw_of q) (seen_of q))

pub same_ran : (p q : Parts) → Same p q → Ran p q
same_ran p q s = subst (λ (h : Hw). Runs (hw_of p) (seen_of p) h (seen_of q)) (sym s.0) (subst (λ (es : List Event). Runs (hw_of p) (seen_of p) (hw_of p) es) (sym s.1) (rest (hw_of p) (seen_of p)))

-- what was heard, at the events as they are then
pub heard_at : {es fs gs : List Event} {l : Line} {o : Outcome} → fs ≡ gs → Heard es l o gs → Heard es l o fs
heard_at {es} {fs} {gs} {l} {o} e h = subst (λ (x : List Event). Heard es l o x) (sym e) h

-- what a line comes to
abbrev pub Plays : Parts → Line → Outcome → Parts → Type 0
Plays p l o q = Ran p q × Heard (seen_of p) l o (seen_of q)

-- refused: nothing happened
pub refused_line : (p q : Parts) (l : Line) (e : Refused) → Same p q → Plays p l (refusal_of e) q
refused_line p q l OutOfRange s = (same_ran p q s, heard_at s.1 (heard.beyond l))
refused_line p q l NoRoom s = (same_ran p q s, heard_at s.1 (heard.full l))
refused_line p q l NoFrame s = (same_ran p q s, heard_at s.1 (heard.full l))
refused_line p q l ReadOnly s = (same_ran p q s, heard_at s.1 (heard.full l))

pub refused_at : (p q : Parts) (l : Line) (r : Result Outcome Refused) → IsErr r → Same p q → Plays p l (said_of r) q
refused_at p q l (Ok o) h s = absurd (false≢true h)
refused_at p q l (Err e) h s = refused_line p q l e s

pub not_kept : (r : Result Outcome Refused) → IsErr r → said_of r ≡ say.Kept → ⊥
not_kept (Ok o) h e = absurd (false≢true h)
not_kept (Err OutOfRange) h e = cc
not_kept (Err NoRoom) h e = cc
not_kept (Err NoFrame) h e = cc
not_kept (Err ReadOnly) h e = cc

pub unasked : (p : Parts) (l : Line) (r : Result Reply Refused) → IsErr r → Replied l p (reply_of r) p
unasked p l (Ok o) h = absurd (false≢true h)
unasked p l (Err e) h = refused_line p p l e (refl, refl)

pub unchanged : (p q : Parts) → q ≡ p → Same p q
unchanged p q e = (ap hw_of e, ap seen_of e)

-- one event noted
pub noted_line : (p q : Parts) (n : Note) (l : Line) (o : Outcome) → q ≡ noted (n ∷ p.notes) p → Runs (hw_of p) (seen_of p) (hw_of p) (event_of n ∷ seen_of p) → Heard (seen_of p) l o (event_of n ∷ seen_of p) → Plays p l o q
noted_line p q n l o e r h = subst (λ (x : Parts). Plays p l o x) (sym e) (r, h)

pub faults_at_load : (p q : Parts) (c v k : ℕ) → c < 32 → v < 1024 → space_of p.space c v ≡ Nothing → q ≡ noted (note.Faulted c v ∷ p.notes) p → Plays p (line.Load c v k) say.Fault q
faults_at_load p q c v k lc lv e a = noted_line p q _ (line.Load c v k) say.Fault a (faults c v lc lv e (rest _ _)) (heard.load_faults c v k)

pub faults_at_store : (p q : Parts) (c v k x : ℕ) → c < 32 → v < 1024 → space_of p.space c v ≡ Nothing → q ≡ noted (note.Faulted c v ∷ p.notes) p → Plays p (line.Store c v k x) say.Fault q
faults_at_store p q c v k x lc lv e a = noted_line p q _ (line.Store c v k x) say.Fault a (faults c v lc lv e (rest _ _)) (heard.store_faults c v k x)

pub pokes_at_load : (p q : Parts) (c v k d : ℕ) → c < 32 → v < 1024 → space_of p.space c v ≡ Registers d → q ≡ noted (note.Poked c v d ∷ p.notes) p → Plays p (line.Load c v k) say.Poked q
pokes_at_load p q c v k d lc lv e a = noted_line p q _ (line.Load c v k) say.Poked a (pokes c v d lc lv e (rest _ _)) (heard.load_pokes c v k d)

pub pokes_at_store : (p q : Parts) (c v k x d : ℕ) → c < 32 → v < 1024 → space_of p.space c v ≡ Registers d → q ≡ noted (note.Poked c v d ∷ p.notes) p → Plays p (line.Store c v k x) say.Poked q
pokes_at_store p q c v k x d lc lv e a = noted_line p q _ (line.Store c v k x) say.Poked a (pokes c v d lc lv e (rest _ _)) (heard.store_pokes c v k x d)

-- a place that shows no page, of a load as of a store
pub shown_faults : (p q : Parts) (c v k : ℕ) → c < 32 → v < 1024 → space_of p.space c v ≡ Nothing → q ≡ noted (note.Faulted c v ∷ p.notes) p → Showed p c v k (Ok (Err say.Fault)) q
shown_faults p q c v k lc lv e a = let z = faults_at_load p q c v k lc lv e a in (z.0, z.1, λ x. (faults_at_store p q c v k x lc lv e a).1, λ n. absurd cc)

pub shown_pokes : (p q : Parts) (c v k d : ℕ) → c < 32 → v < 1024 → space_of p.space c v ≡ Registers d → q ≡ noted (note.Poked c v d ∷ p.notes) p → Showed p c v k (Ok (Err say.Poked)) q
shown_pokes p q c v k d lc lv e a = let z = pokes_at_load p q c v k d lc lv e a in (z.0, z.1, λ x. (pokes_at_store p q c v k x d lc lv e a).1, λ n. absurd cc)

-- a place that shows a page: no room to note what is done there, or a word is loaded
pub shown_full : (p q r : Parts) (c v k f : ℕ) → Showed p c v k (Ok (Ok f)) q → r ≡ q → Same p r
shown_full p q r c v k f s e = unchanged p r (e ∙ s.5)

pub load_loads : (p q r : Parts) (c v k f x : ℕ) → Showed p c v k (Ok (Ok f)) q → x ≡ mem_of q.mem f k → r ≡ noted (note.Loaded c v k x ∷ q.notes) q → Plays p (line.Load c v k) (say.Loaded x) r
load_loads p q r c v k f x s m a = subst P (sym s.5) base m a
  where
    P : Parts → Type 0
    P y = x ≡ mem_of y.mem f k → r ≡ noted (note.Loaded c v k x ∷ y.notes) y → Plays p (line.Load c v k) (say.Loaded x) r

    base : P p
    base n b = noted_line p r _ (line.Load c v k) (say.Loaded x) b (subst (λ y. Runs (hw_of p) (seen_of p) (hw_of p) (Loaded c v k y ∷ seen_of p)) (sym n) (loads c v f k s.0 s.1 s.2 s.3 (rest _ _))) (heard.loaded c v k x)

-- or a word is written
pub store_stores : (p q r : Parts) (c v k f x fr : ℕ) (ws : List ℕ) → Showed p c v k (Ok (Ok f)) q → x < 18446744073709551616 → length p.mem ≡ 512 * p.frames →
    r ≡ noted (note.Stored c v k x ∷ q.notes) q → fr ≡ r.frames → ws ≡ set r.mem (512 * f + k) x → Plays p (line.Store c v k x) say.Stored (written fr ws r.left r)
store_stores p q r c v k f x fr ws s lx len a ef ew =
    let b = subst (λ (y : Parts). r ≡ noted (note.Stored c v k x ∷ y.notes) y) s.5 a in
    let z = noted_written p r (note.Stored c v k x) fr ws f k x b len s.4 s.2 ef ew in (
      subst (λ (h : Hw). Runs (hw_of p) (seen_of p) h (seen_of (written fr ws r.left r))) (sym z.0)
          (subst (λ (es : List Event). Runs (hw_of p) (seen_of p) (with_mem (put f k x (mem_of p.mem)) (hw_of p)) es) (sym z.1) (stores c v f k x s.0 s.1 s.2 lx s.3 (rest _ _))),
      heard_at z.1 (heard.stored c v k x),
    )

-- what comes after some running comes
pub ran_comes : {h i j : Hw} {es fs gs : List Event} {o : Option (ℕ × Call)} → Runs h es i fs → Comes i fs o j gs → Comes h es o j gs
ran_comes r (comes c k l s) = comes c k l (runs_then r s)
ran_comes r (over s) = over (runs_then r s)

-- a call is asked
pub asked_comes : (p : Parts) (ns : List Note) (c : ℕ) (k : Call) → c < 32 → ns ≡ note.Asked c k ∷ p.notes → Comes (hw_of p) (seen_of p) (Some (c, k)) (allowed 2048 (hw_of p)) (map event_of ns)
asked_comes p ns c k lc f =
    subst (λ (ms : List Note). Comes (hw_of p) (seen_of p) (Some (c, k)) (allowed 2048 (hw_of p)) (map event_of ms)) (sym f) (comes c k lc (rest (hw_of p) (seen_of p)))

-- a line that asks for nothing: the machine ran, and it goes on
pub went_on : (l : Line) (p q : Parts) (r : Reply) → ((o : Outcome) × (r ≡ Says o)) ⊎ (r ≡ Quiet) → Replied l p r q → Ran p q
went_on l p q r (inl (o, e)) h = (rw e at h).0
went_on l p q r (inr e) h = same_ran p q (rw e at h)

pub all_over : (p q : Parts) (r : Result (Option (ℕ × Call)) Ended) → IsErr r → Ran p q → Turned p r q
all_over p q (Ok o) h a = absurd (false≢true h)
all_over p q (Err e) h a = a
