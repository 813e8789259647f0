-- The number of each register class.
use Rattle.std.specs.Prelude.{ℕ}
use Rattle.regs.specs.declared.reg.RegClass.{RegClass}
use Rattle.regs.specs.declared.reg.RegClass.TheVariants.{Int, Float, Vector}

abbrev pub class_number : RegClass → ℕ
class_number Int = 0
class_number Float = 1
class_number Vector = 2
