-- A list of wrappers that is read word by word.
use Rattle.std.proofs.Common.{◌≡◌, ℕ, List, [], ◌∷◌, ◌++◌, Ok, Err, Result, sym, refl, ap, ◌∙◌, append_assoc}
use Rattle.trace.specs.Heads.{in_front, wrapper_named, wrappers_of}
use Rattle.trace.specs.declared.head.Wrapper.{Wrapper}
use Rattle.trace.specs.declared.reason.Reason.{Reason}

-- what is read, and then the rest
abbrev pub after : List Wrapper → Result (List Wrapper) Reason → Result (List Wrapper) Reason
after xs (Ok ys) = Ok (xs ++ ys)
after xs (Err e) = Err e

after_more : (xs : List Wrapper) (x : Wrapper) (r : Result (List Wrapper) Reason) → after xs (in_front (Ok x) r) ≡ after (xs ++ x ∷ []) r
after_more xs x (Ok ys) = ap {B = Result (List Wrapper) Reason} (λ l. Ok l) (sym (append_assoc xs (x ∷ []) ys))
after_more xs x (Err e) = refl

-- one more word is read as one more wrapper
pub read_more : (xs zs : List Wrapper) (x : Wrapper) (w : List ℕ) (ws vs : List (List ℕ)) (all : Result (List Wrapper) Reason) → after xs (wrappers_of ws) ≡ all → ws ≡ w ∷ vs → Ok x ≡ wrapper_named w → zs ≡ xs ++ x ∷ [] → after zs (wrappers_of vs) ≡ all
read_more xs zs x w ws vs all inv e n z =
    ap (λ (l : List Wrapper). after l (wrappers_of vs)) z
    ∙ sym (after_more xs x (wrappers_of vs))
    ∙ ap (λ (r : Result Wrapper Reason). after xs (in_front r (wrappers_of vs))) n
    ∙ ap (λ (l : List (List ℕ)). after xs (wrappers_of l)) (sym e)
    ∙ inv

-- a word that names no wrapper ends it
pub read_none : (xs : List Wrapper) (w : List ℕ) (ws vs : List (List ℕ)) (all : Result (List Wrapper) Reason) (x : Reason) → after xs (wrappers_of ws) ≡ all → ws ≡ w ∷ vs → Err x ≡ wrapper_named w → all ≡ Err x
read_none xs w ws vs all x inv e n =
    sym inv
    ∙ ap (λ (l : List (List ℕ)). after xs (wrappers_of l)) e
    ∙ ap (λ (r : Result Wrapper Reason). after xs (in_front r (wrappers_of vs))) (sym n)
