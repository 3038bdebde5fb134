use Rattle.std.proofs.Common.{sym, subst, List, refl, ◌∙◌, arith}
use mathlib.Core.List.{Memᴰ}
use Rattle.simulator.proofs.Listed.{known_member, unknown, learnt_known, learnt_full, learnt_new}
use Rattle.simulator.proofs.front.Front.learn.Goals as goal

pub returns-then-contains-clause-list : goal.returns-then-contains-clause-list
returns-then-contains-clause-list g c = learnt_known g.T.PartialEq.eq c.args.x c.items.result.now _ _ _ c.contains.result c.items.ensures.items c.contains.ensures.value c.if-contains.true

pub returns-then-contains-clause-has : goal.returns-then-contains-clause-has
returns-then-contains-clause-has g c = known_member g.T.PartialEq.eq c.args.x c.items.result.now _ 0 0 c.contains.result c.items.ensures.items c.contains.ensures.value g.met.T.Cached.same c.if-contains.true

pub returns-then-room-eq0-clause-list : goal.returns-then-room-eq0-clause-list
returns-then-room-eq0-clause-list g c = learnt_full g.T.PartialEq.eq c.args.x c.items.result.now _ _ _ c.contains.result c.items.ensures.items c.contains.ensures.value c.if-contains.false (omega arith)

pub returns-then-room-eq0-clause-has : goal.returns-then-room-eq0-clause-has
returns-then-room-eq0-clause-has g c = (unknown g.T.PartialEq.eq c.args.x c.items.result.now _ 0 0 c.contains.result c.items.ensures.items c.contains.ensures.value c.if-contains.false, omega arith)

pub returns-clause-list : goal.returns-clause-list
returns-clause-list g c = c.push.ensures.list ∙ learnt_new g.T.PartialEq.eq c.args.x c.items.result.now _ _ _ c.contains.result c.items.ensures.items c.contains.ensures.value c.if-contains.false (omega arith)

pub returns-clause-has : goal.returns-clause-has
returns-clause-has g c = subst (λ (xs : List _). Memᴰ c.args.x xs) (sym c.push.ensures.list) (Memᴰ.head refl)
