-- How a renaming script falls apart.
use Rattle.std.proofs.Common.{◌≡◌, ℕ, suc, ◌<◌, ◌≤◌, Bool, true, false, List, [], ◌∷◌, ◌++◌, length, get_or, take, drop, refl, sym, ap, ◌∙◌, arith, append_assoc}
use Rattle.std.specs.List.{prefix_len, take_while}
use Rattle.std.proofs.Math.Seq.{take-append_seam}
use Rattle.std.proofs.lemmas.List.{append_cancel_left, length-take-le}
use Rattle.first_grammar.specs.Words.{is_part}
use Rattle.first_rename.specs.Names.{IsPlainName}
use Rattle.codemod_cmd.specs.Script.{front, middle, back, IsEnd, IsRenaming}

prefix_len-name : (p : ℕ → Bool) (w rest : List ℕ) (c : ℕ) → ((k : ℕ) → k < length w → p (get_or w k 0) ≡ true) → p c ≡ false → prefix_len p (w ++ (c ∷ rest)) ≡ length w
prefix_len-name p [] rest c all stop = rw stop refl
prefix_len-name p (x ∷ w) rest c all stop =
    let first : p x ≡ true = all 0 (omega arith) in
    let more = prefix_len-name p w rest c (λ k h. all (suc k) (omega arith)) stop in
    rw first (omega arith)

-- a name and a byte that no name has: the name is what is taken of it
take_while-name : (w rest : List ℕ) (c : ℕ) → IsPlainName w → is_part c ≡ false → take_while is_part (w ++ (c ∷ rest)) ≡ w
take_while-name w rest c name stop = ap (λ n. take n (w ++ (c ∷ rest))) (prefix_len-name is_part w rest c name.rest stop) ∙ take-append_seam w (c ∷ rest)

pub take-length-take : (n : ℕ) (s : List ℕ) → n ≤ length s → take (length (take n s)) s ≡ take n s
take-length-take n s h = ap (λ k. take k s) (length-take-le n s h)

-- so what is split off is the name
split_at_name : (s w q name rest : List ℕ) (c : ℕ) → w ≡ take_while is_part s → s ≡ w ++ q → s ≡ name ++ (c ∷ rest) → IsPlainName name → is_part c ≡ false → (w ≡ name) × (q ≡ c ∷ rest)
split_at_name s w q name rest c taken whole is lawful stop =
    let same : w ≡ name = taken ∙ ap (take_while is_part) is ∙ take_while-name name rest c lawful stop in
    (same, append_cancel_left name q (c ∷ rest) (ap (λ x. x ++ q) (sym same) ∙ sym whole ∙ is))

-- the script from its front on
pub from_front : (s old new : List ℕ) → IsRenaming old new s → (end : List ℕ) × IsEnd end × (s ≡ front ++ (old ++ (middle ++ (new ++ (back ++ end)))))
from_front s old new h = (h.2.0, h.2.1, simp append_assoc at h.2.2)

-- the script from its first name on, and from its second
pub from_old : (s rest w q old new : List ℕ) → s ≡ front ++ rest → w ≡ take_while is_part rest → rest ≡ w ++ q → IsRenaming old new s
    → (w ≡ old) × ((end : List ℕ) × IsEnd end × (q ≡ middle ++ (new ++ (back ++ end))))
unfolding middle
from_old s rest w q old new is taken whole h =
    let whole_script = from_front s old new h in
    let tail = new ++ (back ++ whole_script.0) in
    let rest_is = append_cancel_left front rest (old ++ (middle ++ tail)) (sym is ∙ whole_script.2) in
    let apart = split_at_name rest w q old (drop 1 (middle ++ tail)) 34 taken whole rest_is h.0 refl in
    (apart.0, (whole_script.0, whole_script.1, apart.1))

pub from_new : (s rest w q rest' w' q' old new : List ℕ) → s ≡ front ++ rest → w ≡ take_while is_part rest → rest ≡ w ++ q → q ≡ middle ++ rest' → w' ≡ take_while is_part rest' → rest' ≡ w' ++ q'
    → IsRenaming old new s → (w ≡ old) × (w' ≡ new) × ((end : List ℕ) × IsEnd end × (q' ≡ back ++ end))
unfolding back
from_new s rest w q rest' w' q' old new is taken whole is' taken' whole' h =
    let before = from_old s rest w q old new is taken whole h in
    let end = before.1.0 in
    let rest_is = append_cancel_left middle rest' (new ++ (back ++ end)) (sym is' ∙ before.1.2) in
    let apart = split_at_name rest' w' q' new (drop 1 (back ++ end)) 34 taken' whole' rest_is h.1 refl in
    (before.0, apart.0, (end, before.1.1, apart.1))

-- and put together again
pub joined : (s rest w q rest' w' q' end : List ℕ) → s ≡ front ++ rest → rest ≡ w ++ q → q ≡ middle ++ rest' → rest' ≡ w' ++ q' → q' ≡ back ++ end → s ≡ front ++ w ++ middle ++ w' ++ back ++ end
joined s rest w q rest' w' q' end e0 e1 e2 e3 e4 =
    simp append_assoc (e0 ∙ ap (λ x. front ++ x) (e1 ∙ ap (λ x. w ++ x) (e2 ∙ ap (λ x. middle ++ x) (e3 ∙ ap (λ x. w' ++ x) e4))))
