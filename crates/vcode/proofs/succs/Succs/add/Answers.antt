use Rattle.std.proofs.Common.{◌≡◌, ℕ, ◌+◌, ◌<◌, ◌≤◌, leb, List, [], ◌∷◌, ◌++◌, map, length, None, sym, refl, ap, ◌∙◌, arith}
use Rattle.faults.specs.declared.fault.Fault.TheVariants.{Full}
use Rattle.faults.specs.declared.table_id.TableId.{TableId}
use Rattle.faults.specs.declared.table_id.TableId.TheVariants.{Succs as OfSuccs}
use Rattle.ranges.specs.Spans.{Spans, end_fault, with_end}
use Rattle.regs.specs.declared.reg.Reg.{Reg}
use Rattle.std.proofs.lemmas.List.{length-append, length-map, map-append}
use Rattle.std.proofs.lemmas.Bool.Decides.{nat_tests}
use Rattle.vcode.proofs.Ends.{end_fault_is, end_pushed, totals_last, totals_length}
use Rattle.vcode.proofs.Outcomes.{has_room}
use Rattle.vcode.proofs.Pushed.{held_length, held_push}
use Rattle.vcode.proofs.succs.Succs.add.Goals as goal
use Rattle.vcode.specs.Book.{Limits, Succ, flat_args, full, succ_room}
use Rattle.vcode.specs.Held.{SuccsHeld, arg_ends, block_of, ranges_to}
use Rattle.vcode.specs.declared.succs.Succs.{Succs}
use Rattle.vregs.specs.Entries.{word_of}
use Rattle.faults.specs.Outcomes.{or_else, unless}

module _ (s : Succs) (L : Limits) (ss : List Succ) (h : SuccsHeld s L ss) (args : List Reg) where
  many_blocks : length ss ≡ length s.blocks.entries
  many_blocks = sym (length-map ss (λ x. x.block)) ∙ held_length block_of s.blocks.entries (map (λ x. x.block) ss) h.blocks

  many_args : length (flat_args ss) ≡ length s.args.entries
  many_args = ap length (sym h.args) ∙ length-map s.args.entries word_of

  -- the book's refusal is that of the tables
  room_is : succ_room L ss (map word_of args) ≡ or_else (full (length s.blocks.entries) s.blocks.limit s.blocks.id) (unless (leb (length s.args.entries + length args) s.args.limit) (Full s.args.id))
  room_is =
      let blocks = many_blocks in
      let most = sym h.most_succs in
      let id = sym s.of_blocks in
      let given = length-map args word_of in
      let flat = many_args in
      let most_args = sym h.most_args in
      let args_id = sym s.of_args in
      λ i. or_else (full (blocks i) (most i) (id i)) (unless (leb (flat i + given i) (most_args i)) (Full (args_id i)))

-- what there is room for
passed : (a b c d : ℕ) (t u : TableId) → or_else (full a b t) (unless (leb c d) (Full u)) ≡ None → (a < b) × (c ≤ d)
passed a b c d t u e = (grind (arith, nat_tests), grind (arith, nat_tests))

pub returns-clause-answer : goal.returns-clause-answer
returns-clause-answer c =
    let s = c.args.self.now in
    let args = c.args.args.now in
    let free = c.in_ok-check_room.ensures.0 in
    let fits = passed _ _ _ _ _ _ free in
    λ L ss h.
    let next : Succ = record { block = c.args.block.0; args = map word_of args } in
    let now : map word_of c.append_all.new.self.entries ≡ flat_args (next ∷ ss) = ap (map word_of) (ap (λ t. t.entries) (c.append_all.ensures.added fits.1)) ∙ map-append word_of s.args.entries args ∙ ap (λ (xs : List ℕ). xs ++ map word_of args) h.args in
    let end : c.len.result ≡ length (flat_args (next ∷ ss)) = c.len.ensures.len ∙ sym (length-map c.append_all.new.self.entries word_of) ∙ ap length now in
    let more : length (flat_args (next ∷ ss)) ≡ length (flat_args ss) + length (map word_of args) = length-append (flat_args ss) (map word_of args) in
    let last = totals_last (λ (xs : List Succ). length (flat_args xs)) refl ss in
    let blocks = many_blocks s L ss h args in
    let accepted : end_fault s.arg_ranges.spans c.len.result ≡ None =
    ap (λ (t : Spans). end_fault t c.len.result) h.arg_ranges
    ∙ end_fault_is (arg_ends ss) L.succs OfSuccs c.len.result (omega arith)
    ∙ has_room (length (arg_ends ss)) L.succs OfSuccs (omega (arith, totals_length (λ (xs : List Succ). length (flat_args xs)) ss, h.most_succs, fits.0))
    in (
      room_is s L ss h args ∙ free,
      record {
        blocks = held_push block_of s.blocks.entries _ (map (λ x. x.block) ss) c.args.block h.blocks (ap (λ t. t.entries) (c.append.ensures.added fits.0));
        args = now;
        arg_ranges =
            end_pushed s.arg_ranges.spans c.len.result c.push_end.result _ c.push_end.ensures.cases accepted
            ∙ ap (λ (t : Spans). with_end t c.len.result) h.arg_ranges
            ∙ ap (λ (k : ℕ). ranges_to (arg_ends ss ++ k ∷ []) L.succs OfSuccs) end;
        most_succs = ap (λ t. t.limit) (c.append.ensures.added fits.0) ∙ h.most_succs;
        most_args = ap (λ t. t.limit) (c.append_all.ensures.added fits.1) ∙ h.most_args;
      },
    )
