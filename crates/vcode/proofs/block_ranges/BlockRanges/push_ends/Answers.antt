use Rattle.std.proofs.Common.{sym, ◌∙◌}
use Rattle.vcode.proofs.Ends.{closed_is, refused_is, room_is}
use Rattle.vcode.proofs.block_ranges.BlockRanges.push_ends.Goals as goal

pub returns-in_err-check_end-clause-answer : goal.returns-in_err-check_end-clause-answer
returns-in_err-check_end-clause-answer c =
    λ L bs b h t. refused_is (λ x. x.insts) L bs b c.args.self.now.insts.spans c.args.insts h.insts t.insts_all _ _ _ c.from_residual.ensures.1 c.in_err-check_end.ensures

pub returns-in_err-check_end-2-clause-answer : goal.returns-in_err-check_end-2-clause-answer
returns-in_err-check_end-2-clause-answer c =
    λ L bs b h t. refused_is (λ x. x.succs) L bs b c.args.self.now.succs.spans c.args.succs h.succs t.succs_all _ _ _ c.from_residual-in_err-check_end-2.ensures.1 c.in_err-check_end-2.ensures

pub returns-in_err-check_end-3-clause-answer : goal.returns-in_err-check_end-3-clause-answer
returns-in_err-check_end-3-clause-answer c =
    λ L bs b h t. refused_is (λ x. x.params) L bs b c.args.self.now.params.spans c.args.params h.params t.params_all _ _ _ c.from_residual-in_err-check_end-3.ensures.1 c.in_err-check_end-3.ensures

pub returns-clause-answer : goal.returns-clause-answer
returns-clause-answer c =
    let a = c.args.self.now in
    λ L bs b h t.
    let free = sym (room_is (λ x. x.insts) L bs b a.insts.spans c.args.insts h.insts t.insts_all) ∙ c.in_ok-check_end.ensures.0 in (
      free,
      record {
        insts = closed_is (λ x. x.insts) L bs b a.insts.spans c.args.insts h.insts t.insts_all c.push_end.result _ c.push_end.ensures.cases free;
        succs = closed_is (λ x. x.succs) L bs b a.succs.spans c.args.succs h.succs t.succs_all c.push_end-2.result _ c.push_end-2.ensures.cases free;
        params = closed_is (λ x. x.params) L bs b a.params.spans c.args.params h.params t.params_all c.push_end-3.result _ c.push_end-3.ensures.cases free;
        preds = h.preds;
      },
    )
