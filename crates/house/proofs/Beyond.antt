-- A device that the machine does not have is shut.
use Rattle.std.proofs.Common.{◌≡◌, ℕ, ◌/◌, ◌≤◌, Bool, T, leb, List, arith, T_not}
use Rattle.std.proofs.lemmas.Bool.{le-leb}
use Rattle.house.specs.declared.Call.{Call}
use Rattle.house.specs.declared.Call.TheVariants.{Get, Free, Give, Open, Close, Regs, Lend, Recall, End}
use Rattle.house.specs.Event.{Event}
use Rattle.house.specs.Machine.{Hw}
use Rattle.house.specs.Meaning
use Rattle.house.specs.Meaning.{State, Dev, Shut, Opened, is_shut, is_in, closing, shut, shutting, shut_all, all_drained, loan, device_of, why, acts, loosens, Out, Run, Now}
use Rattle.house.specs.Promise.{start_of}
use Rattle.house.proofs.Shelf.{at_one, choose, passes, from_true}
use Rattle.house.proofs.MeaningUses.{shut_is, closing_shut, through_shut_all}
use Rattle.house.proofs.Good.{noted}

abbrev pub Beyond : State → Type 0
Beyond s = (e : ℕ) → s.devices ≤ e → T (is_shut (s.dev e))

beyond_shut : (d : ℕ) (s : State) → Beyond s → Beyond (shut d s)
beyond_shut d s b e l = at_one (λ (x : Dev). T (is_shut x)) e d Shut (s.dev e) (λ _. shut_is) (λ _. b e l)

beyond_shutting : (d : ℕ) (s : State) → Beyond s → Beyond (shutting d s)
beyond_shutting d s b e l = at_one (λ (x : Dev). T (is_shut x)) e d (closing (s.dev e)) (s.dev e) (λ _. closing_shut (s.dev e) (b e l)) (λ _. b e l)

acts_beyond : (k : Call) (f : ℕ) (s : State) (c : ℕ) → why s c k ≡ 0 → Beyond s → Beyond (acts f s c k).state
unfolding why acts
acts_beyond (Get v) f s c w b = b
acts_beyond (Free v) f s c w b = b
acts_beyond (Give v to at) f s c w b = b
acts_beyond (Open d) f s c w b = λ e l. at_one (λ (x : Dev). T (is_shut x)) e d (Opened c) (s.dev e) (λ q. absurd (T_not (leb s.devices d) (passes (leb s.devices d) 0 _ w).0 (from_true (leb s.devices d) (le-leb s.devices d (omega (arith, q)))))) (λ _. b e l)
acts_beyond (Close d) f s c w b = choose (λ (o : Out). Beyond o.state) (is_in d s.drained) _ _ (λ _. beyond_shut d s b) (λ _. beyond_shutting d s b)
acts_beyond (Regs d v) f s c w b = b
acts_beyond (Lend v d p x) f s c w b = choose (λ (o : Out). Beyond o.state) (s.slots d (p / 512)) _ _ (λ _. b) (λ _. b)
acts_beyond (Recall v) f s c w b = choose (λ (o : Out). Beyond o.state) (is_in (device_of (loan s c v)) s.drained) _ _ (λ _. b) (λ _. b)
acts_beyond (End x) f s c w b =
    let r : Beyond (shut_all s.devices x s) = through_shut_all Beyond beyond_shut beyond_shutting s.devices x s b in
    choose (λ (o : Out). Beyond o.state) (all_drained s.devices x s) _ _ (λ _. r) (λ _. r)

loosens_beyond : (k : Call) (s : State) (c : ℕ) → Beyond s → Beyond (loosens s c k)
unfolding loosens
loosens_beyond (Get v) s c b = b
loosens_beyond (Free v) s c b = b
loosens_beyond (Give v to at) s c b = b
loosens_beyond (Open d) s c b = b
loosens_beyond (Close d) s c b = b
loosens_beyond (Regs d v) s c b = b
loosens_beyond (Lend v d p w) s c b = b
loosens_beyond (Recall v) s c b = b
loosens_beyond (End w) s c b = b

module _ (can : Call → Bool) (h : Hw) where
  pub beyond : {es : List Event} {s : State} {n : Now} → Run can (start_of h) es s n → Beyond s
  beyond Meaning.begin = λ e l. shut_is
  beyond (Meaning.asks c k r) = beyond r
  beyond (Meaning.loosened {s = s} {c = c} {k = k} r b w) = loosens_beyond k s c (beyond r)
  beyond (Meaning.acted {s = s} {c = c} {k = k} f r b w i x) = acts_beyond k f s c w (beyond r)
  beyond (Meaning.refused r b w) = beyond r
  beyond (Meaning.not_built r b) = beyond r
  beyond (Meaning.tells r m) = beyond r
  beyond (Meaning.loads c v k r h) = beyond r
  beyond (Meaning.stores c v k x r h) = beyond r
  beyond (Meaning.pokes c v d r e) = beyond r
  beyond (Meaning.faults c v r t) = beyond r
  beyond (Meaning.took d p f k r l t) = beyond r
  beyond (Meaning.puts d p f k x r l t) = beyond r
  beyond (Meaning.misses d p w r t) = beyond r
  beyond (Meaning.drains {s = s} d b r) = noted Beyond d b s (beyond r) (beyond r)
