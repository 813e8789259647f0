use Rattle.std.proofs.Common.{◌≡◌, ℕ, Bool, true, false, cond, List, [], map, None, Option, refl, ap, ◌∙◌}
use Rattle.vcode.proofs.builder.VCodeBuilder.new.Goals as goal
use Rattle.vcode.specs.Made.{limits_of}
use Rattle.vregs.specs.Entries.{alias_in, limit_of, part_of, vregs_of}
use Rattle.vregs.specs.Files.{allocated}
use Rattle.vregs.specs.declared.vregs.VReg.{VReg}

-- no word has an alias in an empty table
no_alias : (w : ℕ) → alias_in [] w ≡ None
no_alias w = alike (allocated [] w)
  where
    alike : (b : Bool) → ◌≡◌ {A = Option ℕ} (cond b None None) None
    alike true = refl
    alike false = refl

pub returns : goal.returns
returns g c =
    let L = limits_of c.args.tables in (
      c.in_default.ensures.0,
      record {
        file = record {
          regs = ap (map part_of) (ap vregs_of c.clear.ensures);
          alias = λ w. ap (λ (vs : List VReg). alias_in vs w) (ap vregs_of c.clear.ensures) ∙ no_alias w;
          valid = tt;
        };
        code = c.clear-2.ensures L (record { insts = refl; blocks = refl; succs = refl; args = refl; params = refl });
        labels = c.clear-3.ensures;
        output = c.clear-4.ensures L (record { operands = refl; preds = refl; labels = refl });
        entry = refl;
        most_regs = ap limit_of c.clear.ensures;
      },
    )
