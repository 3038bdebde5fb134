-- What writes a line is read as that line.
use Rattle.std.proofs.Common.{◌≡◌, ℕ, Bool, List, [], ◌∷◌, Some, codes, Option, ap, ◌∙◌}
use Rattle.std.specs.Option.{option_map}
use Rattle.script.specs.Language.{Part, text, index, exact, Written, access, request_parts, parts_of}
use Rattle.script.specs.Parser.{give_of, regs_of, lend_of, load_of, store_of, program_of, read_of, write_of, way_of, access_of, keep_of, kept_way, kept_of, head_of, sentence_of}
use Rattle.script.specs.Parts.{and_then, later}
use Rattle.script.proofs.Steps.{index_step, text_step, index_last, exact_last, mode_last, none_left}
use Rattle.script.specs.declared.forms.Line.{Line}
use Rattle.script.specs.declared.forms.Line.TheVariants.{Call, Store, Load, Read, Write, Keep, Kept, Refuse, Seed, New}
use Rattle.script.specs.declared.forms.Request.{Request}
use Rattle.script.specs.declared.forms.Request.TheVariants.{Get, Free, Give, Open, Close, Regs, Lend, Recall, End}

abbrev Words : Type 0
Words = List (List ℕ)

-- The words after the verb of a call.
give_read : (v to at : ℕ) (ws : Words) → Written (index v ∷ index to ∷ index at ∷ []) ws → give_of ws ≡ Some (Give v to at)
give_read v to at ws h =
    let a = index_step v (index to ∷ index at ∷ []) ws h in
    let b = index_step to (index at ∷ []) (later ws) a.1 in
    simp (a.0, b.0, index_last at (later (later ws)) b.1)

regs_read : (d v : ℕ) (ws : Words) → Written (index d ∷ index v ∷ []) ws → regs_of ws ≡ Some (Regs d v)
regs_read d v ws h =
    let a = index_step d (index v ∷ []) ws h in
    simp (a.0, index_last v (later ws) a.1)

lend_read : (v d p : ℕ) (m : Bool) (ws : Words) → Written (index v ∷ index d ∷ index p ∷ text (access m) ∷ []) ws → lend_of ws ≡ Some (Lend v d p m)
lend_read v d p m ws h =
    let a = index_step v (index d ∷ index p ∷ text (access m) ∷ []) ws h in
    let b = index_step d (index p ∷ text (access m) ∷ []) (later ws) a.1 in
    let e = index_step p (text (access m) ∷ []) (later (later ws)) b.1 in
    simp (a.0, b.0, e.0, mode_last m (later (later (later ws))) e.1)

-- The words after a program's number.
call_read : (who : ℕ) (q : Request) (ws : Words) → Written (request_parts q) ws → program_of who ws ≡ Some (Call who q)
call_read who (Get v) ws h =
    let k = text_step (codes "get") (index v ∷ []) ws h in
    ap (program_of who) k.0 ∙ ap (option_map (λ r. Call who r)) (ap (option_map (λ n. Get n)) (index_last v (later ws) k.1))
call_read who (Free v) ws h =
    let k = text_step (codes "free") (index v ∷ []) ws h in
    ap (program_of who) k.0 ∙ ap (option_map (λ r. Call who r)) (ap (option_map (λ n. Free n)) (index_last v (later ws) k.1))
call_read who (Give v to at) ws h =
    let k = text_step (codes "give") (index v ∷ index to ∷ index at ∷ []) ws h in
    ap (program_of who) k.0 ∙ ap (option_map (λ r. Call who r)) (give_read v to at (later ws) k.1)
call_read who (Open d) ws h =
    let k = text_step (codes "open") (index d ∷ []) ws h in
    ap (program_of who) k.0 ∙ ap (option_map (λ r. Call who r)) (ap (option_map (λ n. Open n)) (index_last d (later ws) k.1))
call_read who (Close d) ws h =
    let k = text_step (codes "close") (index d ∷ []) ws h in
    ap (program_of who) k.0 ∙ ap (option_map (λ r. Call who r)) (ap (option_map (λ n. Close n)) (index_last d (later ws) k.1))
call_read who (Regs d v) ws h =
    let k = text_step (codes "regs") (index d ∷ index v ∷ []) ws h in
    ap (program_of who) k.0 ∙ ap (option_map (λ r. Call who r)) (regs_read d v (later ws) k.1)
call_read who (Lend v d p m) ws h =
    let k = text_step (codes "lend") (index v ∷ index d ∷ index p ∷ text (access m) ∷ []) ws h in
    ap (program_of who) k.0 ∙ ap (option_map (λ r. Call who r)) (lend_read v d p m (later ws) k.1)
call_read who (Recall v) ws h =
    let k = text_step (codes "recall") (index v ∷ []) ws h in
    ap (program_of who) k.0 ∙ ap (option_map (λ r. Call who r)) (ap (option_map (λ n. Recall n)) (index_last v (later ws) k.1))
call_read who (End w) ws h =
    let k = text_step (codes "end") (index w ∷ []) ws h in
    ap (program_of who) k.0 ∙ ap (option_map (λ r. Call who r)) (ap (option_map (λ n. End n)) (index_last w (later ws) k.1))

load_read : (who v word : ℕ) (ws : Words) → Written (index v ∷ index word ∷ []) ws → load_of who ws ≡ Some (Load who v word)
load_read who v word ws h =
    let a = index_step v (index word ∷ []) ws h in
    simp (a.0, index_last word (later ws) a.1)

store_read : (who v word x : ℕ) (ws : Words) → Written (index v ∷ index word ∷ exact x ∷ []) ws → store_of who ws ≡ Some (Store who v word x)
store_read who v word x ws h =
    let a = index_step v (index word ∷ exact x ∷ []) ws h in
    let b = index_step word (exact x ∷ []) (later ws) a.1 in
    simp (a.0, b.0, exact_last x (later (later ws)) b.1)

-- The words after the first word of the other lines.
read_read : (d p word : ℕ) (ws : Words) → Written (index p ∷ index word ∷ []) ws → read_of d ws ≡ Some (Read d p word)
read_read d p word ws h =
    let a = index_step p (index word ∷ []) ws h in
    simp (a.0, index_last word (later ws) a.1)

write_read : (d p word x : ℕ) (ws : Words) → Written (index p ∷ index word ∷ exact x ∷ []) ws → write_of d ws ≡ Some (Write d p word x)
write_read d p word x ws h =
    let a = index_step p (index word ∷ exact x ∷ []) ws h in
    let b = index_step word (exact x ∷ []) (later ws) a.1 in
    simp (a.0, b.0, exact_last x (later (later ws)) b.1)

access_read : (l : Line) (d : ℕ) (t : List ℕ) (ps : List Part) (ws : Words) → Written (index d ∷ text t ∷ ps) ws → (Written ps (later (later ws)) → way_of d (t ∷ later (later ws)) ≡ Some l) → access_of ws ≡ Some l
access_read l d t ps ws h way =
    let a = index_step d (text t ∷ ps) ws h in
    let b = text_step t ps (later ws) a.1 in
    ap (λ (o : Option ℕ). and_then o (λ d. way_of d (later ws))) a.0 ∙ ap (way_of d) b.0 ∙ way b.1

keep_read : (d p : ℕ) (ws : Words) → Written (index d ∷ index p ∷ []) ws → keep_of ws ≡ Some (Keep d p)
keep_read d p ws h =
    let a = index_step d (index p ∷ []) ws h in
    simp (a.0, index_last p (later ws) a.1)

way_read : (d p word x : ℕ) (ws : Words) → Written (text (codes "write") ∷ index word ∷ exact x ∷ []) ws → kept_way d p ws ≡ Some (Kept d p word x)
way_read d p word x ws h =
    let a = text_step (codes "write") (index word ∷ exact x ∷ []) ws h in
    let b = index_step word (exact x ∷ []) (later ws) a.1 in
    ap (kept_way d p) a.0 ∙ simp (b.0, exact_last x (later (later ws)) b.1)

kept_read : (d p word x : ℕ) (ws : Words) → Written (index d ∷ index p ∷ text (codes "write") ∷ index word ∷ exact x ∷ []) ws → kept_of ws ≡ Some (Kept d p word x)
kept_read d p word x ws h =
    let a = index_step d (index p ∷ text (codes "write") ∷ index word ∷ exact x ∷ []) ws h in
    let b = index_step p (text (codes "write") ∷ index word ∷ exact x ∷ []) (later ws) a.1 in
    simp (a.0, b.0, way_read d p word x (later (later ws)) b.1)

-- A line that begins with a program's number.
by_program : (who : ℕ) (l : Line) (ps : List Part) (ws : Words) → Written (index who ∷ ps) ws → (Written ps (later ws) → program_of who (later ws) ≡ Some l) → sentence_of ws ≡ Some l
by_program who l ps ws h follows =
    let a = index_step who ps ws h in
    ap (λ (o : Option ℕ). head_of o ws) a.0 ∙ follows a.1

-- After a verb.
by_verb : (who : ℕ) (l : Line) (t : List ℕ) (ps : List Part) (ws : Words) → Written (text t ∷ ps) ws → (Written ps (later ws) → program_of who (t ∷ later ws) ≡ Some l) → program_of who ws ≡ Some l
by_verb who l t ps ws h follows =
    let a = text_step t ps ws h in
    ap (program_of who) a.0 ∙ follows a.1

-- A line that begins with a text, which is no number.
by_text : (l : Line) (t : List ℕ) (ps : List Part) (ws : Words) → Written (text t ∷ ps) ws → (Written ps (later ws) → sentence_of (t ∷ later ws) ≡ Some l) → sentence_of ws ≡ Some l
by_text l t ps ws h follows =
    let a = text_step t ps ws h in
    ap sentence_of a.0 ∙ follows a.1

pub complete : (l : Line) (ws : Words) → Written (parts_of l) ws → sentence_of ws ≡ Some l
complete (Call who q) ws h = by_program who (Call who q) (request_parts q) ws h (call_read who q (later ws))
complete (Store who v word x) ws h =
    by_program who (Store who v word x) (text (codes "store") ∷ index v ∷ index word ∷ exact x ∷ []) ws h
    (λ k. by_verb who (Store who v word x) (codes "store") (index v ∷ index word ∷ exact x ∷ []) (later ws) k (store_read who v word x (later (later ws))))
complete (Load who v word) ws h =
    by_program who (Load who v word) (text (codes "load") ∷ index v ∷ index word ∷ []) ws h
    (λ k. by_verb who (Load who v word) (codes "load") (index v ∷ index word ∷ []) (later ws) k (load_read who v word (later (later ws))))
complete (Read d p word) ws h =
    by_text (Read d p word) (codes "dev") (index d ∷ text (codes "read") ∷ index p ∷ index word ∷ []) ws h
    (λ k. access_read (Read d p word) d (codes "read") (index p ∷ index word ∷ []) (later ws) k (read_read d p word (later (later (later ws)))))
complete (Write d p word x) ws h =
    by_text (Write d p word x) (codes "dev") (index d ∷ text (codes "write") ∷ index p ∷ index word ∷ exact x ∷ []) ws h
    (λ k. access_read (Write d p word x) d (codes "write") (index p ∷ index word ∷ exact x ∷ []) (later ws) k (write_read d p word x (later (later (later ws)))))
complete (Keep d p) ws h = by_text (Keep d p) (codes "keep") (index d ∷ index p ∷ []) ws h (keep_read d p (later ws))
complete (Kept d p word x) ws h =
    by_text (Kept d p word x) (codes "kept") (index d ∷ index p ∷ text (codes "write") ∷ index word ∷ exact x ∷ []) ws h (kept_read d p word x (later ws))
complete (Refuse n) ws h = by_text (Refuse n) (codes "no") (exact n ∷ []) ws h (λ k. simp (exact_last n (later ws) k))
complete (Seed n) ws h = by_text (Seed n) (codes "seed") (exact n ∷ []) ws h (λ k. simp (exact_last n (later ws) k))
complete New ws h = by_text New (codes "new") [] ws h (λ k. simp (none_left New (later ws) k))
