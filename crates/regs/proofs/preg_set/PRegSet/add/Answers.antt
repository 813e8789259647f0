use Rattle.std.proofs.Common.{◌≡◌, ◌%◌, length, arith, rules}
use Rattle.std.proofs.lemmas.Nat.{mod_below, one_shl}
use Rattle.regs.proofs.Bitsets.{added_member}
use Rattle.regs.proofs.preg_set.PRegSet.add.Goals as goal

pub returns-then-w-lt3 : goal.returns-then-w-lt3
returns-then-w-lt3 c n =
    let l : length c.args.self.now.bits ≡ 3 = search rules in
    let a = added_member c.args.self.now c.args.reg.0 n l (omega arith) in
    let e = one_shl (c.args.reg.0 % 64) 64 (mod_below c.args.reg.0 64 (omega arith)) in
    grind arith
