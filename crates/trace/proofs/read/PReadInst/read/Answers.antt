use Rattle.std.proofs.Common.{◌≡◌, codes, rules, arith}
use Rattle.std.proofs.lemmas.Result.{err_from_is_err_and}
use Rattle.std.proofs.lemmas.Slice.Eq.{text_from_reads}
use Rattle.trace.proofs.read.PReadInst.read.Goals as goal

pub returns-in_err-read_reg-in-TailCall : goal.returns-in_err-read_reg-in-TailCall
returns-in_err-read_reg-in-TailCall c =
    let name = c.in_ok-word.field-0.now in
    let is : name ≡ codes "TailCall" = text_from_reads name (codes "TailCall") (omega arith) (search rules) in
    let e = err_from_is_err_and c.from_residual-in_err-read_reg-in-TailCall.result c.from_residual-in_err-read_reg-in-TailCall.ensures.1 in
    rw (e.1, e.2) (rw c.in_ok-word.ensures (rw is (search rules)))

pub returns-in_ok-read_reg-in-TailCall : goal.returns-in_ok-read_reg-in-TailCall
returns-in_ok-read_reg-in-TailCall c =
    let name = c.in_ok-word.field-0.now in
    let is : name ≡ codes "TailCall" = text_from_reads name (codes "TailCall") (omega arith) (search rules) in
    rw c.in_ok-word.ensures (rw is (search rules))

pub returns-in_ok-read_reg-in-Branch : goal.returns-in_ok-read_reg-in-Branch
returns-in_ok-read_reg-in-Branch c =
    let name = c.in_ok-word.field-0.now in
    let is : name ≡ codes "Branch" = text_from_reads name (codes "Branch") (omega arith) (search rules) in
    rw c.in_ok-word.ensures (rw is (search rules))
