use Rattle.std.proofs.Common.{◌≡◌, ℕ, eqb, List, [], ◌∷◌, ◌++◌, map, Bor, String, sym, refl, ap, ◌∙◌, subst, append-nil, rules, tests}
use Rattle.std.proofs.lemmas.Iterator.Consumers.{YieldsList-end}
use Rattle.std.proofs.lemmas.Iterator.Splits.{YieldsList-from_slice_split}
use Rattle.std.specs.declared.alloc.Global.{Global}
use Rattle.trace.proofs.Pieces.{split}
use Rattle.trace.proofs.session.run.Goals as goal
use Rattle.trace.specs.Runs.{Run, Settles, line_step, next_number}
use Rattle.trace.specs.Steps.{Place, place_of, start}

-- one more line is answered
run_more : (p q : Place) (n m : ℕ) (line : List ℕ) (lines : List (List ℕ)) (before mid after : String Global) → m ≡ next_number n → Settles (line_step p (next_number n) line) q before mid → Run q m lines mid after → Run p n (line ∷ lines) before after
run_more p q n m line lines before mid after number due run = (
  mid,
  due.1,
  subst (λ (k : ℕ). Run (line_step p (next_number n) line).0 k lines mid after) number (subst (λ (r : Place). Run r m lines mid after) due.0 run),
)

-- one more line is yielded
lines_more : (yielded : List (Bor (List ℕ))) (line : Bor (List ℕ)) (more : List (List ℕ)) → map (λ l. l.now) (yielded ++ line ∷ []) ++ more ≡ map (λ l. l.now) yielded ++ line.now ∷ more
lines_more [] line more = refl
lines_more (l ∷ ls) line more = ap (λ lines. l.now ∷ lines) (lines_more ls line more)

pub returns-in_err-answer-clause-pieces : goal.returns-in_err-answer-clause-pieces
returns-in_err-answer-clause-pieces c = split 10 c.args.script.now

pub loop-line-preserved : goal.loop-line-preserved
loop-line-preserved c =
    λ more after run.
    let told = c.in_ok-answer.ensures in
    subst (λ (lines : List (List ℕ)). Run start 0 lines c.args.out.now after) (sym (lines_more c.loop-line.yielded c.in-Some.line more))
    (c.loop-line.invariant (c.in-Some.line.now ∷ more) after (run_more (place_of c.loop-line.session.stage) _ _ _ c.in-Some.line.now _ c.loop-line.out c.answer.new.out after told.0 told.1 run))

pub returns-clause-answers : goal.returns-clause-answers
returns-clause-answers c =
    let pieces = YieldsList-from_slice_split _ (λ b. eqb b 10) c.args.script.now (cc) (cc) (cc) (λ x b q k. search (rules, tests)) in
    let all = YieldsList-end pieces c.loop-line.yielded _ c.loop-line.yielded_by _ _ c.in-None.is c.next.ensures.steps in
    subst (λ (lines : List (List ℕ)). Run start 0 lines c.args.out.now c.loop-line.out) (append-nil _ ∙ all.0) (c.loop-line.invariant [] c.loop-line.out refl)

pub returns-clause-pieces : goal.returns-clause-pieces
returns-clause-pieces c = split 10 c.args.script.now
