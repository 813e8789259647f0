-- How a script writes an instruction: its name and its numbers, and for each wrapper, the innermost first, a `+` and its
-- own numbers.
use Rattle.std.specs.Prelude.{ℕ, cond, List, [], ◌∷◌, Ok, Err, codes}
use Rattle.machinst.specs.Layers.{Layer, charge, fence}
use Rattle.machinst.specs.Meaning.{Meaning}
use Rattle.regs.specs.Sets.{member}
use Rattle.regs.specs.declared.preg_set.PRegSet.{PRegSet}
use Rattle.regs.specs.declared.reg.Reg.{Reg}
use Rattle.regs.specs.declared.reg.Writable.{Writable}
use Rattle.set_p.specs.MeaningP.{meaning_p}
use Rattle.set_p.specs.declared.P.{P}
use Rattle.set_p.specs.declared.P.TheVariants.{Imm, Add, Move, Call, TailCall, Ret, Branch, Jump, Trap, Skip}
use Rattle.set_q.specs.MeaningQ.{meaning_q}
use Rattle.set_q.specs.declared.Q.{Q}
use Rattle.std.specs.Str.{bytes_eq}
use Rattle.trace.specs.Readers.{Read, reads_number, reads_this, reads_word, then}
use Rattle.trace.specs.declared.reason.Reason.TheVariants.{UnknownWord}
use Rattle.wrappers.specs.Wrapped.{wrapped}

abbrev pub reads_reg : List (List ℕ) → Read Reg
reads_reg ws = then (reads_number 32 ws) (λ w ws. Ok (record { 0 = w }, ws))

abbrev pub reads_written : List (List ℕ) → Read (Writable Reg)
reads_written ws = then (reads_reg ws) (λ r ws. Ok (record { reg = r }, ws))

-- the three words of a set of registers
abbrev pub reads_set : List (List ℕ) → Read PRegSet
reads_set ws =
    then (reads_number 64 ws)
    (λ w0 ws. then (reads_number 64 ws) (λ w1 ws. then (reads_number 64 ws) (λ w2 ws. Ok (record { bits = w0 ∷ w1 ∷ w2 ∷ [] }, ws))))

abbrev pub reads_q : List (List ℕ) → Read Q
reads_q ws =
    then (reads_this (codes "Op") ws)
    (λ u ws. then (reads_number 8 ws)
    (λ opcode ws. then (reads_reg ws)
    (λ w0 ws. then (reads_reg ws)
    (λ w1 ws. then (reads_reg ws)
    (λ w2 ws. then (reads_number 32 ws)
    (λ number ws. Ok (record { opcode = opcode; words = w0 ∷ w1 ∷ w2 ∷ []; number = number }, ws)))))))

abbrev pub reads_imm : List (List ℕ) → Read P
reads_imm ws = then (reads_written ws) (λ d ws. then (reads_number 32 ws) (λ value ws. Ok (Imm d value, ws)))

abbrev pub reads_add : List (List ℕ) → Read P
reads_add ws =
    then (reads_reg ws) (λ a ws. then (reads_reg ws) (λ b ws. then (reads_written ws) (λ d ws. Ok (Add a b d, ws))))

-- an instruction that has a register to read and one to write
abbrev pub reads_pair : (Reg → Writable Reg → P) → List (List ℕ) → Read P
reads_pair make ws = then (reads_reg ws) (λ a ws. then (reads_written ws) (λ d ws. Ok (make a d, ws)))

-- an instruction that has one register to read
abbrev pub reads_one : (Reg → P) → List (List ℕ) → Read P
reads_one make ws = then (reads_reg ws) (λ a ws. Ok (make a, ws))

-- an instruction of set P, from its name and what follows
abbrev pub named_p : List ℕ → List (List ℕ) → Read P
named_p name ws =
    cond (bytes_eq name (codes "Imm")) (reads_imm ws)
    (cond (bytes_eq name (codes "Add")) (reads_add ws)
    (cond (bytes_eq name (codes "Move")) (reads_pair Move ws)
    (cond (bytes_eq name (codes "Call")) (reads_pair Call ws)
    (cond (bytes_eq name (codes "TailCall")) (reads_one TailCall ws)
    (cond (bytes_eq name (codes "Ret")) (reads_one Ret ws)
    (cond (bytes_eq name (codes "Branch")) (reads_one Branch ws)
    (cond (bytes_eq name (codes "Jump")) (Ok (Jump, ws))
    (cond (bytes_eq name (codes "Trap")) (Ok (Trap, ws))
    (cond (bytes_eq name (codes "Skip")) (Ok (Skip, ws)) (Err UnknownWord))))))))))

abbrev pub reads_p : List (List ℕ) → Read P
reads_p ws = then (reads_word ws) named_p

-- What is read of an instruction, and the words that are left.
abbrev pub Reader : Type 0
Reader = List (List ℕ) → Read Meaning

abbrev pub bare_p : Reader
bare_p ws = then (reads_p ws) (λ p ws. Ok (meaning_p p, ws))

abbrev pub bare_q : Reader
bare_q ws = then (reads_q ws) (λ q ws. Ok (meaning_q q, ws))

-- the numbers of a wrapper: the counter's word, or the three words of the fence
abbrev pub reads_charge : List (List ℕ) → Read Layer
reads_charge ws = then (reads_reg ws) (λ counter ws. Ok (charge counter.0, ws))

abbrev pub reads_fence : List (List ℕ) → Read Layer
reads_fence ws = then (reads_set ws) (λ f ws. Ok (fence (member f), ws))

-- what a wrapper adds in the words: a `+`, and its own numbers
abbrev pub reads_added : (List (List ℕ) → Read Layer) → List (List ℕ) → Read Layer
reads_added own ws = then (reads_this (codes "+") ws) (λ u ws. own ws)

-- a wrapped instruction: the one below, and what the wrapper adds
abbrev pub reads_wrapped : (List (List ℕ) → Read Layer) → Reader → Reader
reads_wrapped own below ws = then (below ws) (λ m ws. then (reads_added own ws) (λ l ws. Ok (wrapped (l ∷ []) m, ws)))
