-- Which line of a script a row of numbers is, if it is one.
-- Assumes nothing.
use Rattle.std.specs.Prelude.{cond, ◌==◌, Option, Some, None, option_map}
use Rattle.script.specs.declared.forms.Line.{Line}
use Rattle.script.specs.declared.forms.Line.TheVariants.{Call, Store, Load, Read, Write, Keep, Kept, Refuse, Seed, New}
use Rattle.script.specs.declared.forms.Request.{Request}
use Rattle.script.specs.declared.forms.Request.TheVariants.{Get, Free, Give, Open, Close, Regs, Lend, Recall, End}
use Rattle.simulator.specs.declared.row.Row.{Row}

abbrev pub request_in : Row → Option Request
request_in r =
    cond (r.call == 0) (Some (Get r.a))
    (cond (r.call == 1) (Some (Free r.a))
    (cond (r.call == 2) (Some (Give r.a r.b r.c))
    (cond (r.call == 3) (Some (Open r.a))
    (cond (r.call == 4) (Some (Close r.a))
    (cond (r.call == 5) (Some (Regs r.a r.b))
    (cond (r.call == 6) (Some (Lend r.a r.b r.c (r.flag == 1)))
    (cond (r.call == 7) (Some (Recall r.a))
    (cond (r.call == 8) (Some (End r.a)) None))))))))

abbrev pub line_in : Row → Option Line
line_in r =
    cond (r.kind == 0) (option_map (λ q. Call r.who q) (request_in r))
    (cond (r.kind == 4) (Some (Load r.who r.a r.b))
    (cond (r.kind == 5) (Some (Store r.who r.a r.b r.x))
    (cond (r.kind == 8) (Some (Read r.who r.a r.c))
    (cond (r.kind == 9) (Some (Write r.who r.a r.c r.x))
    (cond (r.kind == 12) (Some (Keep r.who r.a))
    (cond (r.kind == 13) (Some (Kept r.who r.a r.c r.x))
    (cond (r.kind == 14) (Some (Refuse r.x))
    (cond (r.kind == 15) (Some (Seed r.x))
    (cond (r.kind == 16) (Some New) None)))))))))
