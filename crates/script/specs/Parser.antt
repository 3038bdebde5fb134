-- A line as a function of its words, read from the left.
use Rattle.std.specs.Prelude.{ℕ, Bool, true, false, cond, List, [], ◌∷◌, Some, None, codes, Option}
use Rattle.std.specs.Option.{option_map}
use Rattle.std.specs.Str.{bytes_eq}
use Rattle.script.specs.Decimal.{index_of, exact_of}
use Rattle.script.specs.Parts.{and_then, first, later, alone, last_of}
use Rattle.script.specs.declared.forms.Line.{Line}
use Rattle.script.specs.declared.forms.Line.TheVariants.{Call, Store, Load, Read, Write, Keep, Kept, Refuse, Seed, New}
use Rattle.script.specs.declared.forms.Request.{Request}
use Rattle.script.specs.declared.forms.Request.TheVariants.{Get, Free, Give, Open, Close, Regs, Lend, Recall, End}

abbrev pub mode_of : List ℕ → Option Bool
mode_of w = cond (bytes_eq w (codes "w")) (Some true) (cond (bytes_eq w (codes "r")) (Some false) None)

abbrev pub give_of : List (List ℕ) → Option Request
give_of ws =
    and_then (first index_of ws) (λ v. and_then (first index_of (later ws)) (λ to. option_map (λ at. Give v to at) (last_of index_of (later (later ws)))))

abbrev pub regs_of : List (List ℕ) → Option Request
regs_of ws = and_then (first index_of ws) (λ d. option_map (λ v. Regs d v) (last_of index_of (later ws)))

abbrev pub lend_of : List (List ℕ) → Option Request
lend_of ws =
    and_then (first index_of ws) (λ v.
    and_then (first index_of (later ws)) (λ d.
    and_then (first index_of (later (later ws))) (λ p. option_map (λ m. Lend v d p m) (last_of mode_of (later (later (later ws)))))))

-- After the verb of a call.
abbrev pub request_of : List ℕ → List (List ℕ) → Option Request
request_of verb ws =
    cond (bytes_eq verb (codes "get")) (option_map (λ v. Get v) (last_of index_of ws)) (
    cond (bytes_eq verb (codes "free")) (option_map (λ v. Free v) (last_of index_of ws)) (
    cond (bytes_eq verb (codes "give")) (give_of ws) (
    cond (bytes_eq verb (codes "open")) (option_map (λ d. Open d) (last_of index_of ws)) (
    cond (bytes_eq verb (codes "close")) (option_map (λ d. Close d) (last_of index_of ws)) (
    cond (bytes_eq verb (codes "regs")) (regs_of ws) (
    cond (bytes_eq verb (codes "lend")) (lend_of ws) (
    cond (bytes_eq verb (codes "recall")) (option_map (λ v. Recall v) (last_of index_of ws)) (
    cond (bytes_eq verb (codes "end")) (option_map (λ w. End w) (last_of index_of ws)) None))))))))

abbrev pub load_of : ℕ → List (List ℕ) → Option Line
load_of who ws = and_then (first index_of ws) (λ v. option_map (λ word. Load who v word) (last_of index_of (later ws)))

abbrev pub store_of : ℕ → List (List ℕ) → Option Line
store_of who ws =
    and_then (first index_of ws) (λ v. and_then (first index_of (later ws)) (λ word. option_map (λ x. Store who v word x) (last_of exact_of (later (later ws)))))

-- After a program's number.
abbrev pub program_of : ℕ → List (List ℕ) → Option Line
program_of who [] = None
program_of who (verb ∷ ws) =
    cond (bytes_eq verb (codes "load")) (load_of who ws) (
    cond (bytes_eq verb (codes "store")) (store_of who ws) (option_map (λ request. Call who request) (request_of verb ws)))

abbrev pub read_of : ℕ → List (List ℕ) → Option Line
read_of d ws = and_then (first index_of ws) (λ p. option_map (λ word. Read d p word) (last_of index_of (later ws)))

abbrev pub write_of : ℕ → List (List ℕ) → Option Line
write_of d ws =
    and_then (first index_of ws) (λ p. and_then (first index_of (later ws)) (λ word. option_map (λ x. Write d p word x) (last_of exact_of (later (later ws)))))

abbrev pub way_of : ℕ → List (List ℕ) → Option Line
way_of d [] = None
way_of d (way ∷ ws) = cond (bytes_eq way (codes "read")) (read_of d ws) (cond (bytes_eq way (codes "write")) (write_of d ws) None)

abbrev pub access_of : List (List ℕ) → Option Line
access_of ws = and_then (first index_of ws) (λ d. way_of d (later ws))

abbrev pub keep_of : List (List ℕ) → Option Line
keep_of ws = and_then (first index_of ws) (λ d. option_map (λ p. Keep d p) (last_of index_of (later ws)))

abbrev pub kept_way : ℕ → ℕ → List (List ℕ) → Option Line
kept_way d p [] = None
kept_way d p (way ∷ ws) =
    cond (bytes_eq way (codes "write")) (and_then (first index_of ws) (λ word. option_map (λ x. Kept d p word x) (last_of exact_of (later ws)))) None

abbrev pub kept_of : List (List ℕ) → Option Line
kept_of ws = and_then (first index_of ws) (λ d. and_then (first index_of (later ws)) (λ p. kept_way d p (later (later ws))))

-- After a first word that is not a number.
abbrev pub machine_of : List ℕ → List (List ℕ) → Option Line
machine_of head ws =
    cond (bytes_eq head (codes "dev")) (access_of ws) (
    cond (bytes_eq head (codes "keep")) (keep_of ws) (
    cond (bytes_eq head (codes "kept")) (kept_of ws) (
    cond (bytes_eq head (codes "no")) (option_map (λ n. Refuse n) (last_of exact_of ws)) (
    cond (bytes_eq head (codes "seed")) (option_map (λ s. Seed s) (last_of exact_of ws)) (
    cond (bytes_eq head (codes "new")) (alone New ws) None)))))

-- By whether the first word is a number.
abbrev pub head_of : Option ℕ → List (List ℕ) → Option Line
head_of None [] = None
head_of None (w ∷ ws) = machine_of w ws
head_of (Some who) ws = program_of who (later ws)

abbrev pub sentence_of : List (List ℕ) → Option Line
sentence_of ws = head_of (first index_of ws) ws
