-- An instruction under no wrapper.
use Rattle.std.proofs.Common.{[], sym, refl}
use Rattle.machinst.specs.Layers.{Under}
use Rattle.machinst.specs.Meaning.{Meaning, slots_of}
use Rattle.std.proofs.Math.Bool.{or-false}
use Rattle.std.proofs.lemmas.List.{append-nil}

pub under_none : (m : Meaning) → Under [] m m
under_none m = record {
  slots = sym (append-nil (slots_of m));
  clobbers = λ n. sym (or-false (m.operation.clobbers n));
  move = refl;
  payload = refl;
  control = refl;
}
