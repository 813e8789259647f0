use Rattle.std.proofs.Common.{rules, tests, ◌≡◌, ◌≢◌, length, ap, length}
use Rattle.std.proofs.lemmas.Iterator.{IsFirst-from_position, YieldsList-from_slice}
use Rattle.std.proofs.lemmas.List.{take_rest}
use Rattle.trace.proofs.Cuts.{first_space, next_word, only_spaces}
use Rattle.trace.proofs.words.WordsIterator.next.Goals as goal

pub returns-in_err-start-clause-steps : goal.returns-in_err-start-clause-steps
returns-in_err-start-clause-steps c =
    let bs = c.args.self.now.rest.now in
    let spaces = IsFirst-from_position _ _ _ (λ b. b ≢ 32) (λ b. b ≡ 32) c.in_err-start.ensures.ran (YieldsList-from_slice bs cc) (λ x q k. search (rules, tests)) (λ x q k. search (rules, tests)) in
    let none = only_spaces bs spaces in
    rw c.from_residual.ensures (none, none)

pub returns-clause-steps : goal.returns-clause-steps
returns-clause-steps c =
    let bs = c.args.self.now.rest.now in
    let start = c.in_ok-start.start in
    let past = take_rest bs start in
    let spaces = IsFirst-from_position _ _ _ (λ b. b ≢ 32) (λ b. b ≡ 32) c.in_ok-start.ensures.ran (YieldsList-from_slice bs cc) (λ x q k. search (rules, tests)) (λ x q k. search (rules, tests)) in
    let word = IsFirst-from_position _ _ _ (λ b. b ≡ 32) (λ b. b ≢ 32) c.position-2.ensures.ran (YieldsList-from_slice _ cc) (λ x q k. search (rules, tests)) (λ x q k. search (rules, tests)) in
    next_word bs _ _ c.split_at.result.1.now start c.unwrap_or-end.result spaces past (rw c.unwrap_or-end.ensures (first_space _ _ word)) c.split_at.ensures.front c.split_at.ensures.back

pub returns-clause-goes : goal.returns-clause-goes
returns-clause-goes c = let fewer = ap length (returns-clause-steps c) in search rules
