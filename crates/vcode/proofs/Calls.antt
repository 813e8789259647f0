-- A call on a builder with a past.
use Rattle.std.proofs.Common.{◌≡◌, ℕ, List, Some, None, Ok, Err, Option, Result, OnErr, sym, ap, ◌∙◌, subst}
use Rattle.faults.specs.declared.fault.Fault.{Fault}
use Rattle.machinst.specs.Meaning.{Meaning}
use Rattle.machinst.specs.Parts.{Parts}
use Rattle.std.proofs.lemmas.Result.{on_err_weaker}
use Rattle.vcode.specs.Book.{Answer, Book, Call, Limits, Listing, accept, after, answered, fault, granted, stepped}
use Rattle.vcode.specs.Book.Answer.{done, refused}
use Rattle.vcode.specs.Held.{CodeHeld}
use Rattle.vcode.specs.Past.{Answered, Holds, Reached, done_by, told}
use Rattle.vcode.specs.declared.builder.VCodeBuilder.{VCodeBuilder}
use Rattle.vcode.specs.declared.code.Code.{Code}
use Rattle.vcode.specs.declared.labels.ValueLabels.{ValueLabels}
use Rattle.vregs.specs.Entries.{Filed, limit_of}
use Rattle.vregs.specs.declared.vregs.VRegAllocator.{VRegAllocator}
use Rattle.faults.specs.Outcomes.{Outcome}
use Rattle.vregs.specs.Files.{File}

-- the book with another listing
abbrev pub with_listing : Book → Listing → Book
with_listing k l = record k { listing = l }

-- a builder with another part
module _ {I : Type 0} (b : VCodeBuilder I) where
  abbrev pub with_vregs : VRegAllocator → VCodeBuilder I
  with_vregs v = record b { tables = record (b.tables) { vregs = v } }

  abbrev pub with_code : Code I → VCodeBuilder I
  with_code c = record b { tables = record (b.tables) { code = c } }

  abbrev pub with_labels : ValueLabels → VCodeBuilder I
  with_labels v = record b { tables = record (b.tables) { labels = v } }

module _ {I : Type 0} (meaning : I → Meaning) (parts : ℕ → Option Parts) where
  -- a call that the book refuses leaves the past's builder
  pub refuse : (b : VCodeBuilder I) (c : Call) (L : Limits) (past : List Call) → Reached meaning parts b L past → (f : Fault) → fault parts L (after parts L past) c ≡ Some f → Answered meaning parts b c (refused f) L past
  refuse b c L past h f e = record {
    says = ap (λ (o : Option Fault). answered o (granted parts L (after parts L past) c)) (sym e);
    goes = subst (λ (o : Option Fault). Holds meaning parts b L (stepped o (after parts L past) (accept parts L (after parts L past) c))) (sym e) h;
  }

  -- a call that it accepts leaves what the book has then
  pub grant : (b : VCodeBuilder I) (c : Call) (L : Limits) (past : List Call) → fault parts L (after parts L past) c ≡ None → Holds meaning parts b L (accept parts L (after parts L past) c) → Answered meaning parts b c (granted parts L (after parts L past) c) L past
  grant b c L past e h = record {
    says = ap (λ (o : Option Fault). answered o (granted parts L (after parts L past) c)) (sym e);
    goes = subst (λ (o : Option Fault). Holds meaning parts b L (stepped o (after parts L past) (accept parts L (after parts L past) c))) (sym e) h;
  }

  module _ (b : VCodeBuilder I) (c : Call) (L : Limits) (past : List Call) (h : Reached meaning parts b L past) where
    -- a call's answer, from its outcome
    pub answers : (now : VCodeBuilder I) {X : Type 0} (says : X → Answer) (r : Result X Fault) (P : X → Type 0) → Outcome (fault parts L (after parts L past) c) r P
        → ((x : X) → P x → (says x ≡ granted parts L (after parts L past) c) × Holds meaning parts now L (accept parts L (after parts L past) c))
        → OnErr r (now ≡ b) → Answered meaning parts now c (told says r) L past
    answers now says (Ok x) P o held same =
        let k = held x o.1 in subst (λ (a : Answer). Answered meaning parts now c a L past) (sym k.0) (grant now c L past o.0 k.1)
    answers now says (Err f) P o held same = subst (λ (x : VCodeBuilder I). Answered meaning parts x c (refused f) L past) (sym same) (refuse b c L past h f o)

    -- the same of a call that changes the code alone
    pub on_code : (now : Code I) → done ≡ granted parts L (after parts L past) c → (k : Listing) → with_listing (after parts L past) k ≡ accept parts L (after parts L past) c
        → (r : Result (Unit {0}) Fault) → Outcome (fault parts L (after parts L past) c) r (λ _. CodeHeld meaning now L k) → OnErr r (now ≡ b.tables.code) → Answered meaning parts (with_code b now) c (done_by r) L past
    on_code now plain k is r o same =
        answers (with_code b now) (λ _. done) r (λ _. CodeHeld meaning now L k) o
        (λ u held. (
          plain,
          subst (λ (x : Book). Holds meaning parts (with_code b now) L x) is
              (record { file = h.file; code = held; labels = h.labels; output = h.output; entry = h.entry; most_regs = h.most_regs }),
        ))
        (on_err_weaker r (ap (with_code b)) same)

  -- another file of registers in a table of the same capacity
  pub file_held : (b : VCodeBuilder I) (L : Limits) (k : Book) (v : VRegAllocator) (f : File) → Holds meaning parts b L k → Filed v f → limit_of v ≡ limit_of b.tables.vregs → Holds meaning parts (with_vregs b v) L (record k { file = f })
  file_held b L k v f h held same = record { file = held; code = h.code; labels = h.labels; output = h.output; entry = h.entry; most_regs = same ∙ h.most_regs }
