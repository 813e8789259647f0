use Rattle.std.proofs.Common.{◌≡◌, ℕ, Bool, cond, List, ◌∷◌, reverse, length, Some, None, sym, ap, ◌∙◌, arith}
use Rattle.faults.specs.declared.fault.Fault.TheVariants.{Full}
use Rattle.faults.specs.declared.table_id.TableId.TheVariants.{Labels}
use Rattle.std.proofs.lemmas.List.{reverse-reverse}
use Rattle.std.proofs.lemmas.Bool.{ne_eqb}
use Rattle.vcode.proofs.Outcomes.{is_full}
use Rattle.vcode.proofs.Pushed.{held_length, pushed}
use Rattle.vcode.proofs.labels.ValueLabels.add.Goals as goal
use Rattle.vcode.specs.Book.{Label, full, last_end, record_fault, with_label}
use Rattle.vcode.specs.Held.{label_of}
use Rattle.vregs.proofs.Outcomes.{outcome_err}

-- with an instruction a record is due
due : (limit n : ℕ) (rs : List Label) → (n ≡ 0 → ⊥) → record_fault limit n rs ≡ full (length rs) limit Labels
due limit n rs h = ap (λ (b : Bool). cond b None (full (length rs) limit Labels)) (ne_eqb n 0 h)

pub returns-in_err-check_room-clause-answer : goal.returns-in_err-check_room-clause-answer
returns-in_err-check_room-clause-answer c =
    let s = c.args.self.now in
    let e = c.in_err-check_room.ensures in
    λ limit rs h.
    let n = held_length label_of s.records.entries rs h.records in
    outcome_err _ c.from_residual.result _ _ c.from_residual.ensures.1
    (due limit c.args.end rs c.if-end-eq0.false ∙ is_full (length rs) limit Labels (omega (arith, h.most, e.0)) ∙ ap (λ i. Some (Full i)) (sym s.of_records) ∙ ap Some (sym e.1))

pub returns-clause-answer : goal.returns-clause-answer
returns-clause-answer c =
    let s = c.args.self.now in
    let w = c.args.reg.0 in
    let l = c.args.label.0 in
    let n = c.args.end in
    λ limit rs h.
    let start : c.last_end-start.result ≡ last_end rs l = c.last_end-start.ensures ∙ ap (λ (xs : List Label). last_end (reverse xs) l) h.records ∙ ap (λ (xs : List Label). last_end xs l) (reverse-reverse rs) in
    let new : List Label = record { word = w; start = last_end rs l; end = n; label = l } ∷ rs in
    let with : with_label rs n w l ≡ new = ap (λ (b : Bool). cond b rs new) (ne_eqb n 0 c.if-end-eq0.false) in
    rw (due limit n rs c.if-end-eq0.false)
    (pushed label_of s.records c.try_push.new.self rs Labels limit _ c.try_push.result _ h.records h.most s.of_records c.try_push.ensures
    (λ held most. record {
      records = held ∙ ap (λ (k : ℕ). reverse (record { word = w; start = k; end = n; label = l } ∷ rs)) start ∙ ap reverse (sym with);
      most = most;
    }))
