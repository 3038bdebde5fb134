-- Accesses by the tables and by what was kept, as rows of single steps that leave nothing known.
use Rattle.std.proofs.Common.{◌≡◌, ℕ, suc, ◌+◌, ◌*◌, ◌/◌, ◌%◌, ◌<◌, Bool, true, false, cond, ◌&&◌, eqb, T, List, ◌∷◌, length, Option, Some, None, Result, Ok, IsErr, IfSome, find, sym, refl, ap, ◌∙◌, subst, arith}
use mathlib.Core.List.{Memᴰ}
use Rattle.std.proofs.lemmas.Bool.{and_parts, eqb-true}
use Rattle.house.specs.Event.{Event, TookFrom, PutInto}
use Rattle.house.specs.Machine.{Hw, Up, Mid, Leaf, Steps, none, more, known, drop_one, up, mid, leaf, less_up, less_mid, less_leaf, flies, fails, takes, puts, frame_in, may_write, with_mem, put}
use Rattle.script.specs.declared.forms.Line.TheVariants as line
use Rattle.script.specs.declared.forms.Line.{Line}
use Rattle.script.specs.declared.outcomes.Outcome.{Outcome}
use Rattle.script.specs.declared.outcomes.Outcome.TheVariants as say
use Rattle.simulator.specs.declared.cached.LowerTable.{LowerTable}
use Rattle.simulator.specs.declared.cached.PageEntry.{PageEntry}
use Rattle.simulator.specs.declared.cached.UpperTable.{UpperTable}
use Rattle.simulator.specs.declared.refused.Refused.{Refused}
use Rattle.simulator.specs.Store.{mem_of}
use Rattle.simulator.specs.Parts.{Parts, hw_of, seen_of, Goes, leaf_of}
use Rattle.simulator.specs.Effects.{Same, TookAt, PutAt, MissedAt}
use Rattle.simulator.specs.declared.board.walks.Way.{Way}
use Rattle.simulator.specs.Walks.{Path, IsWay, Reached}
use Rattle.simulator.specs.Heard as heard
use Rattle.simulator.specs.Heard.{said_of}
use Rattle.simulator.proofs.Asked.{steps_then}
use Rattle.simulator.proofs.Forgets.{keeping, steps_at}
use Rattle.simulator.proofs.Listed.{found_member}
use Rattle.simulator.proofs.Tricks.{mem_map, up_goes, mid_goes, leaf_goes, miss_goes}
use Rattle.simulator.proofs.Lines.{Plays, goes_ran, heard_at, same_ran, runs_then, refused_at}

-- the way in to a page, through all three levels, and an access let through; and all forgotten again
module _ (h : Hw) (es : List Event) (d g top low : ℕ) (live : T h.live) (ld : d < h.devices) (lg : g < 262144) (first : h.mem 0 d ≡ suc top) (second : h.mem top (g / 512) ≡ suc low) (there : 0 < h.mem low (g % 512)) where
  abbrev u : Up
  u = record { dev = d; table = top }

  abbrev m : Mid
  m = record { dev = d; slot = g / 512; table = low }

  abbrev l : Leaf
  l = record { dev = d; page = 512 * (g / 512) + g % 512; entry = h.mem low (g % 512) }

  abbrev inside : Hw → Hw
  inside i = known (u ∷ i.ups) (m ∷ i.mids) (l ∷ i.leaves) (l ∷ i.flying) i

  way_in : Steps h es (inside h) es
  way_in =
      more (up h d top live ld first)
      (more (mid _ u (g / 512) low (Memᴰ.head refl) (omega arith) second)
      (more (leaf _ m (g % 512) (Memᴰ.head refl) (omega arith) there) (more (flies _ l (Memᴰ.head refl)) (none _ es))))

  way_out : (i : Hw) (fs : List Event) → Steps (inside i) fs i fs
  unfolding drop_one
  way_out i fs = more (fails _ 0) (more (less_leaf _ 0) (more (less_mid _ 0) (more (less_up _ 0) (none _ fs))))

  page_is : 512 * (g / 512) + g % 512 ≡ g
  page_is = omega arith

  through_takes : (k : ℕ) → k < 512 → Steps h es h (TookFrom d g (frame_in (h.mem low (g % 512))) k (h.mem (frame_in (h.mem low (g % 512))) k) ∷ es)
  through_takes k lk =
      subst (λ y. Steps h es h (TookFrom d y (frame_in (h.mem low (g % 512))) k (h.mem (frame_in (h.mem low (g % 512))) k) ∷ es)) page_is
      (steps_then way_in (more (takes (inside h) l k (Memᴰ.head refl) lk) (way_out h _)))

  through_puts : (k x : ℕ) → k < 512 → x < 18446744073709551616 → T (may_write (h.mem low (g % 512))) →
      Steps h es (with_mem (put (frame_in (h.mem low (g % 512))) k x h.mem) h) (PutInto d g (frame_in (h.mem low (g % 512))) k x ∷ es)
  through_puts k x lk lx w =
      subst (λ y. Steps h es (with_mem (put (frame_in (h.mem low (g % 512))) k x h.mem) h) (PutInto d y (frame_in (h.mem low (g % 512))) k x ∷ es)) page_is
      (steps_then way_in (more (puts (inside h) l k x (Memᴰ.head refl) lk lx w) (way_out (with_mem (put (frame_in (h.mem low (g % 512))) k x h.mem) h) _)))

module _ (p q : Parts) (d g top low e k : ℕ) (w : Path p d g top low e) (ld : d < length p.devices) (lg : g < 262144) (lk : k < 512) where
  there : 0 < mem_of p.mem low (g % 512)
  there = let a = w.last in let b = w.there in omega arith

  pub took_goes : (x : ℕ) → TookAt p d g e k (Ok x) q → Goes p q
  took_goes x t =
      steps_at {h = hw_of p} {es = seen_of p} refl refl (sym t.1) (sym (t.2 ∙ ap (λ y. TookFrom d g (frame_in e) k y ∷ seen_of p) t.0))
      (subst (λ f. Steps (hw_of p) (seen_of p) (hw_of p) (TookFrom d g (frame_in f) k (mem_of p.mem (frame_in f) k) ∷ seen_of p)) w.last
      (through_takes (hw_of p) (seen_of p) d g top low w.live ld lg w.first w.second there k lk))

  pub wrote_goes : (x : ℕ) → x < 18446744073709551616 → PutAt p d g e k x (Ok tt) q → Goes p q
  wrote_goes x lx t =
      steps_at {h = hw_of p} {es = seen_of p} refl refl (sym t.1) (sym t.2)
      (subst (λ f. T (may_write f) → Steps (hw_of p) (seen_of p) (with_mem (put (frame_in f) k x (mem_of p.mem)) (hw_of p)) (PutInto d g (frame_in f) k x ∷ seen_of p)) w.last
      (through_puts (hw_of p) (seen_of p) d g top low w.live ld lg w.first w.second there k x lk lx) t.0)

-- a write by what was kept
pub kept_goes : (p q : Parts) (l : PageEntry) (k x : ℕ) → Memᴰ l p.leaves → k < 512 → x < 18446744073709551616 → PutAt p l.device l.page l.entry k x (Ok tt) q → Goes p q
unfolding drop_one
kept_goes p q l k x ml lk lx t =
    let h = hw_of p in
    steps_at {h = h} {es = seen_of p} refl refl (sym t.1) (sym t.2)
    (more (flies h (leaf_of l) (mem_map leaf_of ml)) (more (puts _ (leaf_of l) k x (Memᴰ.head refl) lk lx t.0) (more (fails _ 0) (none _ _))))

-- what a line about a device comes to
then_same : (p q r : Parts) → Same p q → Same q r → Same p r
then_same p q r a b = (b.0 ∙ a.0, b.1 ∙ a.1)

pub missed_at : (p q : Parts) (d g : ℕ) (w b : Bool) → b ≡ true → MissedAt p d g w (Ok b) q → MissedAt p d g w (Ok true) q
missed_at p q d g w b e m = subst (λ c. MissedAt p d g w (Ok c) q) e m

pub read_missed : (p q : Parts) (d g k : ℕ) → Reached p d g k false (Ok None) q → Plays p (line.Read d g k) say.Miss q
read_missed p q d g k (ld, lg, t) = (goes_ran p q (miss_goes p q d g false (Ok true) ld lg t), heard_at t.2 (heard.read_misses d g k))

pub write_missed : (p q : Parts) (d g k x : ℕ) → Reached p d g k true (Ok None) q → Plays p (line.Write d g k x) say.Miss q
write_missed p q d g k x (ld, lg, t) = (goes_ran p q (miss_goes p q d g true (Ok true) ld lg t), heard_at t.2 (heard.write_misses d g k x))

module _ (p q r : Parts) (d g k : ℕ) (w : Bool) (y : Way) (a : Reached p d g k w (Ok (Some y)) q) where
  pub refused_then : (l : Line) (o : Result Outcome Refused) → IsErr o → Same q r → Plays p l (said_of o) r
  refused_then l o h s = refused_at p r l o h (then_same p q r a.1 s)

  -- what a line of the way's own page comes to, the line comes to
  at_page : (line : ℕ → ℕ → Line) (o : Outcome) → Plays p (line y.page.device y.page.page) o r → Plays p (line d g) o r
  at_page line o h = subst (λ e. Plays p (line e g) o r) a.3 (subst (λ f. Plays p (line y.page.device f) o r) a.4 h)

  pub read_took : (x : ℕ) → TookAt q y.page.device y.page.page y.page.entry k (Ok x) r → Plays p (line.Read d g k) (say.Took x) r
  read_took x t =
      at_page (λ e f. line.Read e f k) (say.Took x) (
        runs_then (same_ran p q a.1) (goes_ran q r (took_goes q r _ _ _ _ _ k a.2.path a.2.device a.2.page a.0 x t)),
        heard_at (t.2 ∙ ap (λ es. TookFrom y.page.device y.page.page (frame_in y.page.entry) k x ∷ es) a.1.1) (heard.took y.page.device y.page.page (frame_in y.page.entry) k x),
      )

  pub write_put : (x : ℕ) → x < 18446744073709551616 → PutAt q y.page.device y.page.page y.page.entry k x (Ok tt) r → Plays p (line.Write d g k x) say.Put r
  write_put x lx t =
      at_page (λ e f. line.Write e f k x) say.Put (
        runs_then (same_ran p q a.1) (goes_ran q r (wrote_goes q r _ _ _ _ _ k a.2.path a.2.device a.2.page a.0 x lx t)),
        heard_at (t.2 ∙ ap (λ es. PutInto y.page.device y.page.page (frame_in y.page.entry) k x ∷ es) a.1.1) (heard.puts y.page.device y.page.page (frame_in y.page.entry) k x),
      )

-- what `find` gives is of that page, and is there
pub found_entry : (es : List PageEntry) (d g : ℕ) (l : PageEntry) → Some l ≡ find (λ e. eqb e.device d && eqb e.page g) es → (l.device ≡ d) × (l.page ≡ g) × Memᴰ l es
found_entry es d g l e =
    let h : ((eqb l.device d && eqb l.page g) ≡ true) × Memᴰ l es = subst (λ (o : Option PageEntry). IfSome o (λ x. ((eqb x.device d && eqb x.page g) ≡ true) × Memᴰ x es)) (sym e) (found_member (λ x. eqb x.device d && eqb x.page g) es) in
    let z = and_parts (eqb l.device d) (eqb l.page g) h.0 in
    (eqb-true l.device d z.0, eqb-true l.page g z.1, h.1)

pub kept_put : (p q : Parts) (d g : ℕ) (l : PageEntry) (k x : ℕ) → l.device ≡ d → l.page ≡ g → Memᴰ l p.leaves → k < 512 → x < 18446744073709551616 → PutAt p d g l.entry k x (Ok tt) q → Plays p (line.Kept d g k x) say.Put q
kept_put p q d g l k x ed eg ml lk lx t =
    let u : PutAt p l.device l.page l.entry k x (Ok tt) q = subst (λ y. PutAt p l.device y l.entry k x (Ok tt) q) (sym eg) (subst (λ y. PutAt p y g l.entry k x (Ok tt) q) (sym ed) t) in
    (goes_ran p q (kept_goes p q l k x ml lk lx u), heard_at t.2 (heard.kept_puts d g (frame_in l.entry) k x))

-- the same by the entry that a search finds
pub kept_found : (p q : Parts) (d g : ℕ) (l : PageEntry) (k x : ℕ) → Some l ≡ find (λ e. eqb e.device d && eqb e.page g) p.leaves → k < 512 → x < 18446744073709551616 → PutAt p l.device l.page l.entry k x (Ok tt) q →
    Plays p (line.Kept d g k x) say.Put q
kept_found p q d g l k x e lk lx t =
    let h = found_entry p.leaves d g l e in
    kept_put p q d g l k x h.0 h.1 h.2 lk lx (subst (λ y. PutAt p d y l.entry k x (Ok tt) q) h.1 (subst (λ y. PutAt p y l.page l.entry k x (Ok tt) q) h.0 t))

pub kept_missed : (p q : Parts) (d g k x : ℕ) → Same p q → Plays p (line.Kept d g k x) say.Miss q
kept_missed p q d g k x s = (same_ran p q s, heard_at s.1 (heard.kept_misses d g k x))

-- keeping a page and the tables on the way
module _ (p : Parts) (w : Way) (y : IsWay p w) where
  live_true : (b : Bool) → T b → b ≡ true
  live_true true t = refl
  live_true false t = absurd t

  pub keep_top : (a b : Bool) (us : List UpperTable) → us ≡ cond a p.ups (cond b (w.upper ∷ p.ups) p.ups) → Goes p (keeping us p.mids p.leaves p.flying p)
  keep_top a b us el =
      up_goes p w.upper.device w.upper.table a b us (live_true p.live y.path.live) (subst (λ e. e < length p.devices) (sym y.upper) y.device) (subst (λ e. mem_of p.mem 0 e ≡ suc w.upper.table) (sym y.upper) y.path.first) el

  pub keep_low : (a b : Bool) (us : List UpperTable) (ms : List LowerTable) → Memᴰ w.upper us → ms ≡ cond a p.mids (cond b (w.lower ∷ p.mids) p.mids) → Goes (keeping us p.mids p.leaves p.flying p) (keeping us ms p.leaves p.flying p)
  keep_low a b us ms iu el =
      let new : ℕ → LowerTable = λ e. record { device = e; slot = w.lower.slot; table = w.lower.table } in
      let s = y.slot in
      let l = y.page in
      mid_goes (keeping us p.mids p.leaves p.flying p) w.upper w.lower.slot w.lower.table a b ms iu (omega arith) (subst (λ e. mem_of p.mem w.upper.table e ≡ suc w.lower.table) (sym y.slot) y.path.second)
      (el ∙ ap (λ e. cond a p.mids (cond b (new e ∷ p.mids) p.mids)) (y.lower ∙ sym y.upper))

  pub keep_page : (a b : Bool) (us : List UpperTable) (ms : List LowerTable) (ls : List PageEntry) → Memᴰ w.lower ms → ls ≡ cond a p.leaves (cond b (w.page ∷ p.leaves) p.leaves) →
      Goes (keeping us ms p.leaves p.flying p) (keeping us ms ls p.flying p)
  keep_page a b us ms ls im el =
      let new : ℕ → ℕ → PageEntry = λ e f. record { device = e; page = f; entry = w.page.entry } in
      let s = y.slot in
      let z : w.page.page ≡ 512 * w.lower.slot + w.page.page % 512 = omega arith in
      leaf_goes (keeping us ms p.leaves p.flying p) w.lower (w.page.page % 512) w.page.entry a b ls im (omega arith) (sym y.path.last) y.path.there
      (el ∙ (ap (λ e. cond a p.leaves (cond b (new e w.page.page ∷ p.leaves) p.leaves)) (sym y.lower) ∙ ap (λ f. cond a p.leaves (cond b (new w.lower.device f ∷ p.leaves) p.leaves)) z))
