-- Flow is monotone: with fewer known registers each path exists, and no more registers are known
-- along it.
use Rattle.std.proofs.Common.{◌≡◌, ◌≤◌, ℕ, ◌+◌, ◌/◌, ◌%◌, ◌&&◌, Bool, true, false, cond, List, [], ◌∷◌, ◌++◌, length, map, replicate, arith, Option, Some, None, refl, sym, ap, ◌∙◌, subst, eqb, ℤ, pos, ◌+ℤ◌}
use Rattle.std.specs.Prelude.{◌||◌, not, nat_le}
use Rattle.ebpf_items.specs.declared.instruction.bpf_insn.{bpf_insn}
use Rattle.ebpf_items.specs.Instruction.{dst_reg_of, src_reg_of, is_pseudo_call}
use Rattle.plan_values.specs.declared.effects.Kind.{Kind}
use Rattle.plan_values.specs.declared.effects.Kind.TheVariants as kind
use Rattle.plan_values.specs.declared.program.Verifier.{Verifier}
use Rattle.plan_values.specs.declared.value.Value.{Value}
use Rattle.plan_values.specs.declared.value.Value.TheVariants as value
use Rattle.plan_values.specs.Values.{SaysNoMore, is_plain, outside, plain_if}
use Rattle.plan_values.specs.Knowledge.{Known, any_entry, forgotten, keeps_frame, value_in, IsWithin}
use Rattle.plan_values.specs.Sizes.{size_of, width_of}
use Rattle.std.specs.Int.{w64, cast_unsigned}
use Rattle.plan_values.specs.Cells.{cell_at, is_aligned, is_tracked, keeps, part_of, position, read_cell, read_number, stored_value}
use Rattle.plan_values.specs.Programs.{Code, index_in, target}
use Rattle.plan_values.specs.Effects.{adds, after, after_frame_store, after_kind, after_result, after_store, arithmetic_value, call_result, copied_value, copies, frame_value, is_plain_atomic, kind_of, known_result, loaded_value, moves, number_value, operand, paired_value, stored_operand, stores_immediate, subtracts, wide_value, with_frame, with_three}
use Rattle.plan_registers.specs.Flow.{Way, decided_values, decided, allows, along, back, back_with, branch, distance, ended, ended_with, entered, entered_known, going, inner_ways, is_global, is_static_call, leaving, passed, result_at, result_value, returned, stops, to_index, to_slot, ways_of}
use Rattle.plan_registers.specs.Reach.{Facts, IsMet, AllMet, fact_at}
use Rattle.plan_values.proofs.Within.{all_plain_up, and_both, and_left, and_right, forgotten_less, forgotten_set, forgotten_within, plain_up, says_refl, within_drop, within_take, within_append, within_refl, within_trans, within_set, within_value}

-- What an instruction leaves.

says_eq : (a b : Value) → b ≡ a → SaysNoMore a b
says_eq a b e = subst (λ (o : Value). SaysNoMore a o) (sym e) (says_refl a)

says_cond : (v : Bool) (a b c d : Value) → SaysNoMore a b → SaysNoMore c d → SaysNoMore (cond v a c) (cond v b d)
says_cond true a b c d p q = p
says_cond false a b c d p q = q

number_plain : (o : Option ℕ) → is_plain (number_value o) ≡ true
number_plain None = refl
number_plain (Some n) = refl

cond_plain : (v : Bool) (a b : Value) → is_plain a ≡ true → is_plain b ≡ true → is_plain (cond v a b) ≡ true
cond_plain true a b p q = p
cond_plain false a b p q = q

-- What is left of plain values is plain.

copied_plain : (v : Verifier) (s : bpf_insn) (y : Value) → is_plain y ≡ true → is_plain (copied_value v s y) ≡ true
copied_plain v s value.Unknown e = absurd (cc)
copied_plain v s value.Plain e = refl
copied_plain v s (value.Number n) e = number_plain (known_result v s 0 n)
copied_plain v s value.Address e = refl
copied_plain v s (value.Map n j) e = refl
copied_plain v s (value.Context j) e = refl
copied_plain v s (value.Frame j) e = absurd (cc)
copied_plain v s (value.Part n j l) e = refl

says_copied : (v : Verifier) (s : bpf_insn) (y y' : Value) → SaysNoMore y y' → SaysNoMore (copied_value v s y) (copied_value v s y')
says_copied v s value.Unknown y' p = tt
says_copied v s value.Plain y' p = copied_plain v s y' (plain_up value.Plain y' refl p)
says_copied v s (value.Number n) y' p = says_eq _ _ (ap (λ (o : Value). copied_value v s o) p)
says_copied v s value.Address y' p = copied_plain v s y' (plain_up value.Address y' refl p)
says_copied v s (value.Map n j) y' p = copied_plain v s y' (plain_up (value.Map n j) y' refl p)
says_copied v s (value.Context j) y' p = copied_plain v s y' (plain_up (value.Context j) y' refl p)
says_copied v s (value.Frame j) y' p = tt
says_copied v s (value.Part n j l) y' p = copied_plain v s y' (plain_up (value.Part n j l) y' refl p)

both_eq : (v : Verifier) (s : bpf_insn) (x x' y y' : Value) → x' ≡ x → y' ≡ y → SaysNoMore (paired_value v s x y) (paired_value v s x' y')
both_eq v s x x' y y' p q =
    says_eq _ _ (ap (λ (o : Value). paired_value v s o y') p ∙ ap (λ (o : Value). paired_value v s x o) q)

paired_plain : (v : Verifier) (s : bpf_insn) (x y : Value) → is_plain x ≡ true → is_plain y ≡ true → is_plain (paired_value v s x y) ≡ true
paired_plain v s value.Unknown value.Unknown e f = absurd (cc)
paired_plain v s value.Unknown value.Plain e f = absurd (cc)
paired_plain v s value.Unknown (value.Number n) e f = absurd (cc)
paired_plain v s value.Unknown value.Address e f = absurd (cc)
paired_plain v s value.Unknown (value.Map n j) e f = absurd (cc)
paired_plain v s value.Unknown (value.Context j) e f = absurd (cc)
paired_plain v s value.Unknown (value.Frame j) e f = absurd (cc)
paired_plain v s value.Unknown (value.Part n j l) e f = absurd (cc)
paired_plain v s value.Plain value.Unknown e f = absurd (cc)
paired_plain v s value.Plain value.Plain e f = refl
paired_plain v s value.Plain (value.Number n) e f = refl
paired_plain v s value.Plain value.Address e f = refl
paired_plain v s value.Plain (value.Map n j) e f = refl
paired_plain v s value.Plain (value.Context j) e f = refl
paired_plain v s value.Plain (value.Frame j) e f = absurd (cc)
paired_plain v s value.Plain (value.Part n j l) e f = refl
paired_plain v s (value.Number m) value.Unknown e f = absurd (cc)
paired_plain v s (value.Number m) value.Plain e f = refl
paired_plain v s (value.Number m) (value.Number n) e f = number_plain (known_result v s m n)
paired_plain v s (value.Number m) value.Address e f = refl
paired_plain v s (value.Number m) (value.Map n j) e f = cond_plain (eqb s.code 15) _ _ refl refl
paired_plain v s (value.Number m) (value.Context j) e f = cond_plain (eqb s.code 15) _ _ refl refl
paired_plain v s (value.Number m) (value.Frame j) e f = absurd (cc)
paired_plain v s (value.Number m) (value.Part n j l) e f = refl
paired_plain v s value.Address value.Unknown e f = absurd (cc)
paired_plain v s value.Address value.Plain e f = refl
paired_plain v s value.Address (value.Number n) e f = refl
paired_plain v s value.Address value.Address e f = refl
paired_plain v s value.Address (value.Map n j) e f = refl
paired_plain v s value.Address (value.Context j) e f = refl
paired_plain v s value.Address (value.Frame j) e f = absurd (cc)
paired_plain v s value.Address (value.Part n j l) e f = refl
paired_plain v s (value.Map m i) value.Unknown e f = absurd (cc)
paired_plain v s (value.Map m i) value.Plain e f = refl
paired_plain v s (value.Map m i) (value.Number n) e f = cond_plain (adds s) _ _ refl (cond_plain (subtracts s) _ _ refl refl)
paired_plain v s (value.Map m i) value.Address e f = refl
paired_plain v s (value.Map m i) (value.Map n j) e f = refl
paired_plain v s (value.Map m i) (value.Context j) e f = refl
paired_plain v s (value.Map m i) (value.Frame j) e f = absurd (cc)
paired_plain v s (value.Map m i) (value.Part n j l) e f = refl
paired_plain v s (value.Context i) value.Unknown e f = absurd (cc)
paired_plain v s (value.Context i) value.Plain e f = refl
paired_plain v s (value.Context i) (value.Number n) e f = cond_plain (adds s) _ _ refl (cond_plain (subtracts s) _ _ refl refl)
paired_plain v s (value.Context i) value.Address e f = refl
paired_plain v s (value.Context i) (value.Map n j) e f = refl
paired_plain v s (value.Context i) (value.Context j) e f = refl
paired_plain v s (value.Context i) (value.Frame j) e f = absurd (cc)
paired_plain v s (value.Context i) (value.Part n j l) e f = refl
paired_plain v s (value.Frame i) value.Unknown e f = absurd (cc)
paired_plain v s (value.Frame i) value.Plain e f = absurd (cc)
paired_plain v s (value.Frame i) (value.Number n) e f = absurd (cc)
paired_plain v s (value.Frame i) value.Address e f = absurd (cc)
paired_plain v s (value.Frame i) (value.Map n j) e f = absurd (cc)
paired_plain v s (value.Frame i) (value.Context j) e f = absurd (cc)
paired_plain v s (value.Frame i) (value.Frame j) e f = absurd (cc)
paired_plain v s (value.Frame i) (value.Part n j l) e f = absurd (cc)
paired_plain v s (value.Part m i k) value.Unknown e f = absurd (cc)
paired_plain v s (value.Part m i k) value.Plain e f = refl
paired_plain v s (value.Part m i k) (value.Number n) e f = refl
paired_plain v s (value.Part m i k) value.Address e f = refl
paired_plain v s (value.Part m i k) (value.Map n j) e f = refl
paired_plain v s (value.Part m i k) (value.Context j) e f = refl
paired_plain v s (value.Part m i k) (value.Frame j) e f = absurd (cc)
paired_plain v s (value.Part m i k) (value.Part n j l) e f = refl

says_paired : (v : Verifier) (s : bpf_insn) (x x' y y' : Value) → SaysNoMore x x' → SaysNoMore y y' → SaysNoMore (paired_value v s x y) (paired_value v s x' y')
says_paired v s value.Unknown x' value.Unknown y' p q = tt
says_paired v s value.Unknown x' value.Plain y' p q = tt
says_paired v s value.Unknown x' (value.Number n) y' p q = tt
says_paired v s value.Unknown x' value.Address y' p q = tt
says_paired v s value.Unknown x' (value.Map n j) y' p q = tt
says_paired v s value.Unknown x' (value.Context j) y' p q = tt
says_paired v s value.Unknown x' (value.Frame j) y' p q = tt
says_paired v s value.Unknown x' (value.Part n j l) y' p q = tt
says_paired v s value.Plain x' value.Unknown y' p q = tt
says_paired v s value.Plain x' value.Plain y' p q = paired_plain v s x' y' (plain_up value.Plain x' refl p) (plain_up value.Plain y' refl q)
says_paired v s value.Plain x' (value.Number n) y' p q = paired_plain v s x' y' (plain_up value.Plain x' refl p) (plain_up (value.Number n) y' refl q)
says_paired v s value.Plain x' value.Address y' p q = paired_plain v s x' y' (plain_up value.Plain x' refl p) (plain_up value.Address y' refl q)
says_paired v s value.Plain x' (value.Map n j) y' p q = paired_plain v s x' y' (plain_up value.Plain x' refl p) (plain_up (value.Map n j) y' refl q)
says_paired v s value.Plain x' (value.Context j) y' p q = paired_plain v s x' y' (plain_up value.Plain x' refl p) (plain_up (value.Context j) y' refl q)
says_paired v s value.Plain x' (value.Frame j) y' p q = tt
says_paired v s value.Plain x' (value.Part n j l) y' p q = paired_plain v s x' y' (plain_up value.Plain x' refl p) (plain_up (value.Part n j l) y' refl q)
says_paired v s (value.Number m) x' value.Unknown y' p q = tt
says_paired v s (value.Number m) x' value.Plain y' p q = paired_plain v s x' y' (plain_up (value.Number m) x' refl p) (plain_up value.Plain y' refl q)
says_paired v s (value.Number m) x' (value.Number n) y' p q = both_eq v s (value.Number m) x' (value.Number n) y' p q
says_paired v s (value.Number m) x' value.Address y' p q = paired_plain v s x' y' (plain_up (value.Number m) x' refl p) (plain_up value.Address y' refl q)
says_paired v s (value.Number m) x' (value.Map n j) y' p q = both_eq v s (value.Number m) x' (value.Map n j) y' p q
says_paired v s (value.Number m) x' (value.Context j) y' p q = both_eq v s (value.Number m) x' (value.Context j) y' p q
says_paired v s (value.Number m) x' (value.Frame j) y' p q = both_eq v s (value.Number m) x' (value.Frame j) y' p q
says_paired v s (value.Number m) x' (value.Part n j l) y' p q = paired_plain v s x' y' (plain_up (value.Number m) x' refl p) (plain_up (value.Part n j l) y' refl q)
says_paired v s value.Address x' value.Unknown y' p q = tt
says_paired v s value.Address x' value.Plain y' p q = paired_plain v s x' y' (plain_up value.Address x' refl p) (plain_up value.Plain y' refl q)
says_paired v s value.Address x' (value.Number n) y' p q = paired_plain v s x' y' (plain_up value.Address x' refl p) (plain_up (value.Number n) y' refl q)
says_paired v s value.Address x' value.Address y' p q = paired_plain v s x' y' (plain_up value.Address x' refl p) (plain_up value.Address y' refl q)
says_paired v s value.Address x' (value.Map n j) y' p q = paired_plain v s x' y' (plain_up value.Address x' refl p) (plain_up (value.Map n j) y' refl q)
says_paired v s value.Address x' (value.Context j) y' p q = paired_plain v s x' y' (plain_up value.Address x' refl p) (plain_up (value.Context j) y' refl q)
says_paired v s value.Address x' (value.Frame j) y' p q = tt
says_paired v s value.Address x' (value.Part n j l) y' p q = paired_plain v s x' y' (plain_up value.Address x' refl p) (plain_up (value.Part n j l) y' refl q)
says_paired v s (value.Map m i) x' value.Unknown y' p q = tt
says_paired v s (value.Map m i) x' value.Plain y' p q = paired_plain v s x' y' (plain_up (value.Map m i) x' refl p) (plain_up value.Plain y' refl q)
says_paired v s (value.Map m i) x' (value.Number n) y' p q = both_eq v s (value.Map m i) x' (value.Number n) y' p q
says_paired v s (value.Map m i) x' value.Address y' p q = paired_plain v s x' y' (plain_up (value.Map m i) x' refl p) (plain_up value.Address y' refl q)
says_paired v s (value.Map m i) x' (value.Map n j) y' p q = paired_plain v s x' y' (plain_up (value.Map m i) x' refl p) (plain_up (value.Map n j) y' refl q)
says_paired v s (value.Map m i) x' (value.Context j) y' p q = paired_plain v s x' y' (plain_up (value.Map m i) x' refl p) (plain_up (value.Context j) y' refl q)
says_paired v s (value.Map m i) x' (value.Frame j) y' p q = tt
says_paired v s (value.Map m i) x' (value.Part n j l) y' p q = paired_plain v s x' y' (plain_up (value.Map m i) x' refl p) (plain_up (value.Part n j l) y' refl q)
says_paired v s (value.Context i) x' value.Unknown y' p q = tt
says_paired v s (value.Context i) x' value.Plain y' p q = paired_plain v s x' y' (plain_up (value.Context i) x' refl p) (plain_up value.Plain y' refl q)
says_paired v s (value.Context i) x' (value.Number n) y' p q = both_eq v s (value.Context i) x' (value.Number n) y' p q
says_paired v s (value.Context i) x' value.Address y' p q = paired_plain v s x' y' (plain_up (value.Context i) x' refl p) (plain_up value.Address y' refl q)
says_paired v s (value.Context i) x' (value.Map n j) y' p q = paired_plain v s x' y' (plain_up (value.Context i) x' refl p) (plain_up (value.Map n j) y' refl q)
says_paired v s (value.Context i) x' (value.Context j) y' p q = paired_plain v s x' y' (plain_up (value.Context i) x' refl p) (plain_up (value.Context j) y' refl q)
says_paired v s (value.Context i) x' (value.Frame j) y' p q = tt
says_paired v s (value.Context i) x' (value.Part n j l) y' p q = paired_plain v s x' y' (plain_up (value.Context i) x' refl p) (plain_up (value.Part n j l) y' refl q)
says_paired v s (value.Frame i) x' value.Unknown y' p q = tt
says_paired v s (value.Frame i) x' value.Plain y' p q = tt
says_paired v s (value.Frame i) x' (value.Number n) y' p q = both_eq v s (value.Frame i) x' (value.Number n) y' p q
says_paired v s (value.Frame i) x' value.Address y' p q = tt
says_paired v s (value.Frame i) x' (value.Map n j) y' p q = tt
says_paired v s (value.Frame i) x' (value.Context j) y' p q = tt
says_paired v s (value.Frame i) x' (value.Frame j) y' p q = tt
says_paired v s (value.Frame i) x' (value.Part n j l) y' p q = tt
says_paired v s (value.Part m i k) x' value.Unknown y' p q = tt
says_paired v s (value.Part m i k) x' value.Plain y' p q = paired_plain v s x' y' (plain_up (value.Part m i k) x' refl p) (plain_up value.Plain y' refl q)
says_paired v s (value.Part m i k) x' (value.Number n) y' p q = paired_plain v s x' y' (plain_up (value.Part m i k) x' refl p) (plain_up (value.Number n) y' refl q)
says_paired v s (value.Part m i k) x' value.Address y' p q = paired_plain v s x' y' (plain_up (value.Part m i k) x' refl p) (plain_up value.Address y' refl q)
says_paired v s (value.Part m i k) x' (value.Map n j) y' p q = paired_plain v s x' y' (plain_up (value.Part m i k) x' refl p) (plain_up (value.Map n j) y' refl q)
says_paired v s (value.Part m i k) x' (value.Context j) y' p q = paired_plain v s x' y' (plain_up (value.Part m i k) x' refl p) (plain_up (value.Context j) y' refl q)
says_paired v s (value.Part m i k) x' (value.Frame j) y' p q = tt
says_paired v s (value.Part m i k) x' (value.Part n j l) y' p q = paired_plain v s x' y' (plain_up (value.Part m i k) x' refl p) (plain_up (value.Part n j l) y' refl q)

says_arithmetic : (v : Verifier) (s : bpf_insn) (x x' y y' : Value) → SaysNoMore x x' → SaysNoMore y y' → SaysNoMore (arithmetic_value v s x y) (arithmetic_value v s x' y')
unfolding arithmetic_value
says_arithmetic v s x x' y y' p q =
    says_cond (copies s) y y' _ _ q (says_cond (moves s) _ _ _ _ (says_copied v s y y' q) (says_paired v s x x' y y' p q))

-- What is read and stored.

read_number_plain : (number start size first width : ℕ) → is_plain (read_number number start size first width) ≡ true
read_number_plain number start size first width =
    cond_plain (eqb start first && eqb size width) _ _ refl (cond_plain (eqb number 0 && (nat_le start first && nat_le (first + width) (start + size))) _ _ refl refl)

read_plain : (v : Value) (first width : ℕ) → is_plain v ≡ true → is_plain (read_cell v first width) ≡ true
unfolding read_cell
read_plain value.Unknown first width e = absurd (cc)
read_plain value.Plain first width e = cond_plain (eqb width 8) _ _ refl refl
read_plain (value.Number n) first width e = read_number_plain n 0 8 first width
read_plain value.Address first width e = cond_plain (eqb width 8) _ _ refl refl
read_plain (value.Map n j) first width e = cond_plain (eqb width 8) _ _ refl refl
read_plain (value.Context j) first width e = cond_plain (eqb width 8) _ _ refl refl
read_plain (value.Frame j) first width e = absurd (cc)
read_plain (value.Part n j l) first width e = read_number_plain n j l first width

narrow_plain : (b : Bool) (v : Value) → b ≡ false → is_plain (cond b v value.Plain) ≡ true
narrow_plain true v e = absurd (cc)
narrow_plain false v e = refl

read_narrow : (v : Value) (first width : ℕ) → eqb width 8 ≡ false → is_plain (read_cell v first width) ≡ true
unfolding read_cell
read_narrow value.Unknown first width e = narrow_plain (eqb width 8) value.Unknown e
read_narrow value.Plain first width e = narrow_plain (eqb width 8) value.Plain e
read_narrow (value.Number n) first width e = read_number_plain n 0 8 first width
read_narrow value.Address first width e = narrow_plain (eqb width 8) value.Address e
read_narrow (value.Map n j) first width e = narrow_plain (eqb width 8) (value.Map n j) e
read_narrow (value.Context j) first width e = narrow_plain (eqb width 8) (value.Context j) e
read_narrow (value.Frame j) first width e = narrow_plain (eqb width 8) (value.Frame j) e
read_narrow (value.Part n j l) first width e = read_number_plain n j l first width

says_narrow : (b : Bool) (u v : Value) → (b ≡ true → SaysNoMore u v) → (b ≡ false → is_plain v ≡ true) → SaysNoMore (cond b u value.Plain) v
says_narrow true u v f g = f refl
says_narrow false u v f g = g refl

says_read : (u v : Value) (first width : ℕ) → SaysNoMore u v → SaysNoMore (read_cell u first width) (read_cell v first width)
unfolding read_cell
says_read value.Unknown v first width p = says_narrow (eqb width 8) value.Unknown (read_cell v first width) (λ e. tt) (read_narrow v first width)
says_read value.Plain v first width p = says_narrow (eqb width 8) value.Plain (read_cell v first width) (λ e. read_plain v first width p) (read_narrow v first width)
says_read (value.Number n) v first width p = says_eq _ _ (ap (λ (o : Value). read_cell o first width) p)
says_read value.Address v first width p = says_eq _ _ (ap (λ (o : Value). read_cell o first width) p)
says_read (value.Map n j) v first width p = says_eq _ _ (ap (λ (o : Value). read_cell o first width) p)
says_read (value.Context j) v first width p = says_eq _ _ (ap (λ (o : Value). read_cell o first width) p)
says_read (value.Frame j) v first width p = says_eq _ _ (ap (λ (o : Value). read_cell o first width) p)
says_read (value.Part n j l) v first width p = says_eq _ _ (ap (λ (o : Value). read_cell o first width) p)

says_frame : (a b : Known) (at width : ℕ) → IsWithin a b → SaysNoMore (frame_value a at width) (frame_value b at width)
says_frame a b at width p =
    says_cond (is_tracked at && is_aligned at width) _ _ _ _ (says_read _ _ (at % 8) width (within_value a b (cell_at at) p)) (says_refl (plain_if (not (eqb width 8))))

part_plain : (b : Bool) (number first width : ℕ) → is_plain (cond b (part_of number first width) value.Plain) ≡ true
part_plain b number first width = cond_plain b _ _ (cond_plain (eqb width 8) _ _ refl refl) refl

stored_plain : (v : Verifier) (imm : Bool) (first width : ℕ) (x : Value) → is_plain x ≡ true → is_plain (stored_value v imm first width x) ≡ true
unfolding stored_value
stored_plain v imm first width value.Unknown e = absurd (cc)
stored_plain v imm first width value.Plain e = cond_plain (eqb width 8) _ _ refl refl
stored_plain v imm first width (value.Number n) e = part_plain (keeps v imm n first width) n first width
stored_plain v imm first width value.Address e = cond_plain (eqb width 8) _ _ refl refl
stored_plain v imm first width (value.Map n j) e = cond_plain (eqb width 8) _ _ refl refl
stored_plain v imm first width (value.Context j) e = cond_plain (eqb width 8) _ _ refl refl
stored_plain v imm first width (value.Frame j) e = absurd (cc)
stored_plain v imm first width (value.Part n j l) e = cond_plain (eqb width 8) _ _ refl refl

stored_narrow : (v : Verifier) (imm : Bool) (first width : ℕ) (x : Value) → eqb width 8 ≡ false → is_plain (stored_value v imm first width x) ≡ true
unfolding stored_value
stored_narrow v imm first width value.Unknown e = narrow_plain (eqb width 8) value.Unknown e
stored_narrow v imm first width value.Plain e = narrow_plain (eqb width 8) value.Plain e
stored_narrow v imm first width (value.Number n) e = part_plain (keeps v imm n first width) n first width
stored_narrow v imm first width value.Address e = narrow_plain (eqb width 8) value.Address e
stored_narrow v imm first width (value.Map n j) e = narrow_plain (eqb width 8) (value.Map n j) e
stored_narrow v imm first width (value.Context j) e = narrow_plain (eqb width 8) (value.Context j) e
stored_narrow v imm first width (value.Frame j) e = narrow_plain (eqb width 8) (value.Frame j) e
stored_narrow v imm first width (value.Part n j l) e = narrow_plain (eqb width 8) (value.Part n j l) e

says_stored : (v : Verifier) (imm : Bool) (first width : ℕ) (x y : Value) → SaysNoMore x y → SaysNoMore (stored_value v imm first width x) (stored_value v imm first width y)
unfolding stored_value
says_stored v imm first width value.Unknown y p = says_narrow (eqb width 8) value.Unknown (stored_value v imm first width y) (λ e. tt) (stored_narrow v imm first width y)
says_stored v imm first width value.Plain y p = says_narrow (eqb width 8) value.Plain (stored_value v imm first width y) (λ e. stored_plain v imm first width y p) (stored_narrow v imm first width y)
says_stored v imm first width (value.Number n) y p = says_eq _ _ (ap (λ (o : Value). stored_value v imm first width o) p)
says_stored v imm first width value.Address y p = says_eq _ _ (ap (λ (o : Value). stored_value v imm first width o) p)
says_stored v imm first width (value.Map n j) y p = says_eq _ _ (ap (λ (o : Value). stored_value v imm first width o) p)
says_stored v imm first width (value.Context j) y p = says_eq _ _ (ap (λ (o : Value). stored_value v imm first width o) p)
says_stored v imm first width (value.Frame j) y p = says_eq _ _ (ap (λ (o : Value). stored_value v imm first width o) p)
says_stored v imm first width (value.Part n j l) y p = says_eq _ _ (ap (λ (o : Value). stored_value v imm first width o) p)

loaded_plain : (code : Code) (s : bpf_insn) (b : Known) (y : Value) → is_plain y ≡ true → is_plain (loaded_value code s b y) ≡ true
unfolding loaded_value
loaded_plain code s b value.Unknown e = absurd (cc)
loaded_plain code s b value.Plain e = refl
loaded_plain code s b (value.Number n) e = refl
loaded_plain code s b value.Address e = refl
loaded_plain code s b (value.Map n j) e = number_plain _
loaded_plain code s b (value.Context j) e = refl
loaded_plain code s b (value.Frame j) e = absurd (cc)
loaded_plain code s b (value.Part n j l) e = refl

says_loaded : (code : Code) (s : bpf_insn) (a b : Known) (x y : Value) → IsWithin a b → SaysNoMore x y → SaysNoMore (loaded_value code s a x) (loaded_value code s b y)
unfolding loaded_value
says_loaded code s a b value.Unknown y h p = tt
says_loaded code s a b value.Plain y h p = loaded_plain code s b y (plain_up value.Plain y refl p)
says_loaded code s a b (value.Number n) y h p = loaded_plain code s b y (plain_up (value.Number n) y refl p)
says_loaded code s a b value.Address y h p = loaded_plain code s b y (plain_up value.Address y refl p)
says_loaded code s a b (value.Map n j) y h p = says_eq _ _ (ap (λ (o : Value). loaded_value code s b o) p)
says_loaded code s a b (value.Context j) y h p = loaded_plain code s b y (plain_up (value.Context j) y refl p)
says_loaded code s a b (value.Frame j) y h p = subst (λ (o : Value). SaysNoMore (loaded_value code s a (value.Frame j)) (loaded_value code s b o)) (sym p) (says_frame a b (position j (cast_unsigned w64 s.off)) (width_of (size_of s.code)) h)
says_loaded code s a b (value.Part n j l) y h p = loaded_plain code s b y (plain_up (value.Part n j l) y refl p)

within_cond : (v : Bool) (a b c d : Known) → IsWithin a b → IsWithin c d → IsWithin (cond v a c) (cond v b d)
within_cond true a b c d p q = p
within_cond false a b c d p q = q

says_stored_operand : (s : bpf_insn) (a b : Known) → IsWithin a b → SaysNoMore (stored_operand s a) (stored_operand s b)
says_stored_operand s a b p = says_cond (stores_immediate s) _ _ _ _ refl (within_value a b (src_reg_of s) p)

within_frame_store : (v : Verifier) (s : bpf_insn) (a b : Known) (at width : ℕ) → IsWithin a b → IsWithin (after_frame_store v s a at width) (after_frame_store v s b at width)
within_frame_store v s a b at width p =
    within_cond (is_aligned at width) _ _ _ _
    (within_cond (is_tracked at) _ _ _ _ (within_set a b (cell_at at) _ _ p (says_stored v (stores_immediate s) (at % 8) width _ _ (says_stored_operand s a b p))) p)
    (forgotten_within a b p)

less_if : (v : Bool) (a b c : Known) → IsWithin a b → IsWithin a c → IsWithin a (cond v b c)
less_if true a b c p q = p
less_if false a b c p q = q

cell_high : (at : ℕ) → 16 ≤ cell_at at
cell_high at = omega arith

-- The least that is known after a store.

frame_least : (v : Verifier) (s : bpf_insn) (a b : Known) (at width : ℕ) → IsWithin a b → IsWithin (forgotten a) (after_frame_store v s b at width)
frame_least v s a b at width p =
    less_if (is_aligned at width) _ _ _ (less_if (is_tracked at) _ _ _ (forgotten_set a b (cell_at at) _ (cell_high at) p) (forgotten_less a b p)) (forgotten_within a b p)

store_least : (v : Verifier) (s : bpf_insn) (a b : Known) (y : Value) → IsWithin a b → IsWithin (forgotten a) (after_store v s b y)
unfolding after_store
store_least v s a b value.Unknown p = forgotten_within a b p
store_least v s a b value.Plain p = forgotten_less a b p
store_least v s a b (value.Number n) p = forgotten_less a b p
store_least v s a b value.Address p = forgotten_less a b p
store_least v s a b (value.Map n j) p = forgotten_less a b p
store_least v s a b (value.Context j) p = forgotten_less a b p
store_least v s a b (value.Frame j) p =
    frame_least v s a b (position j (cast_unsigned w64 s.off)) (width_of (size_of s.code)) p
store_least v s a b (value.Part n j l) p = forgotten_less a b p

pub store_plain : (v : Verifier) (s : bpf_insn) (b : Known) (y : Value) → is_plain y ≡ true → after_store v s b y ≡ b
unfolding after_store
store_plain v s b value.Unknown e = absurd (cc)
store_plain v s b value.Plain e = refl
store_plain v s b (value.Number n) e = refl
store_plain v s b value.Address e = refl
store_plain v s b (value.Map n j) e = refl
store_plain v s b (value.Context j) e = refl
store_plain v s b (value.Frame j) e = absurd (cc)
store_plain v s b (value.Part n j l) e = refl

within_plain_store : (v : Verifier) (s : bpf_insn) (a b : Known) (y : Value) → IsWithin a b → is_plain y ≡ true → IsWithin a (after_store v s b y)
within_plain_store v s a b y p e = subst (λ (k : Known). IsWithin a k) (sym (store_plain v s b y e)) p

within_store : (v : Verifier) (s : bpf_insn) (a b : Known) (x y : Value) → IsWithin a b → SaysNoMore x y → IsWithin (after_store v s a x) (after_store v s b y)
unfolding after_store
within_store v s a b value.Unknown y p q = store_least v s a b y p
within_store v s a b value.Plain y p q = within_plain_store v s a b y p (plain_up value.Plain y refl q)
within_store v s a b (value.Number n) y p q = within_plain_store v s a b y p (plain_up (value.Number n) y refl q)
within_store v s a b value.Address y p q = within_plain_store v s a b y p (plain_up value.Address y refl q)
within_store v s a b (value.Map n j) y p q = within_plain_store v s a b y p (plain_up (value.Map n j) y refl q)
within_store v s a b (value.Context j) y p q = within_plain_store v s a b y p (plain_up (value.Context j) y refl q)
within_store v s a b (value.Frame j) y p q =
    subst (λ (o : Value). IsWithin (after_store v s a (value.Frame j)) (after_store v s b o)) (sym q) (within_frame_store v s a b (position j (cast_unsigned w64 s.off)) (width_of (size_of s.code)) p)
within_store v s a b (value.Part n j l) y p q = within_plain_store v s a b y p (plain_up (value.Part n j l) y refl q)

pub says_operand : (s : bpf_insn) (a b : Known) → IsWithin a b → SaysNoMore (operand s a) (operand s b)
says_operand s a b p =
    says_cond (eqb (s.code / 8 % 2) 1) _ _ _ _ (within_value a b (src_reg_of s) p) refl

within_after_result : (u v : Value) (a b : Known) → SaysNoMore u v → IsWithin a b → IsWithin (after_result u a) (after_result v b)
within_after_result u v a b q p = (q, (refl, (refl, (refl, (refl, (refl, within_drop a b 6 p))))))

-- More is known of what keeps the frame.

keeps_up : (a b : Known) → IsWithin a b → keeps_frame a ≡ true → keeps_frame b ≡ true
keeps_up a b p e = all_plain_up _ _ (within_take _ _ 5 (within_drop a b 1 p)) e

frame_within : (v w : Bool) (a b : Known) → (v ≡ true → w ≡ true) → IsWithin a b → IsWithin (cond v a (forgotten a)) (cond w b (forgotten b))
frame_within true true a b f p = p
frame_within true false a b f p = absurd (let e = f refl in cc)
frame_within false true a b f p = forgotten_less a b p
frame_within false false a b f p = forgotten_within a b p

within_with_frame : (a b : Known) → IsWithin a b → IsWithin (with_frame a) (with_frame b)
within_with_frame a b p = frame_within (keeps_frame a) (keeps_frame b) a b (keeps_up a b p) p

says_plain_if : (v w : Bool) → (v ≡ true → w ≡ true) → SaysNoMore (plain_if v) (plain_if w)
says_plain_if true w f = ap (λ (b : Bool). is_plain (plain_if b)) (f refl)
says_plain_if false w f = tt

pub or_and : (x y k l : Bool) → (k ≡ true → l ≡ true) → (x || (y && k)) ≡ true → (x || (y && l)) ≡ true
or_and true y k l f e = refl
or_and false true k l f e = f e
or_and false false k l f e = absurd (cc)

says_call_result : (s : bpf_insn) (a b : Known) → IsWithin a b → SaysNoMore (call_result s a) (call_result s b)
says_call_result s a b p =
    says_plain_if _ _ (or_and (eqb (src_reg_of s) 0) (eqb (src_reg_of s) 2) (keeps_frame a) (keeps_frame b) (keeps_up a b p))

three_within : (s : bpf_insn) (u v : Value) (a b : Known) → SaysNoMore u v → IsWithin a b → IsWithin (with_three s u a) (with_three s v b)
three_within s u v a b q p = within_set _ _ 0 u v (within_set _ _ (src_reg_of s) u v (within_set a b (dst_reg_of s) u v p q) q) q

atomic_up : (s : bpf_insn) (a b : Known) → IsWithin a b → is_plain_atomic s a ≡ true → is_plain_atomic s b ≡ true
atomic_up s a b p e =
    let x = and_left (is_plain (value_in a (dst_reg_of s))) (is_plain (value_in a (src_reg_of s)) && is_plain (value_in a 0)) e in
    let rest = and_right (is_plain (value_in a (dst_reg_of s))) (is_plain (value_in a (src_reg_of s)) && is_plain (value_in a 0)) e in
    and_both _ _ (plain_up _ _ x (within_value a b (dst_reg_of s) p))
    (and_both _ _ (plain_up _ _ (and_left (is_plain (value_in a (src_reg_of s))) (is_plain (value_in a 0)) rest) (within_value a b (src_reg_of s) p))
    (plain_up _ _ (and_right (is_plain (value_in a (src_reg_of s))) (is_plain (value_in a 0)) rest) (within_value a b 0 p)))

atomic_within : (v w : Bool) (s : bpf_insn) (a b : Known) → (v ≡ true → w ≡ true) → IsWithin a b → IsWithin (cond v (with_three s value.Plain a) (with_three s value.Unknown (forgotten a))) (cond w (with_three s value.Plain b) (with_three s value.Unknown (forgotten b)))
atomic_within true true s a b f p = three_within s value.Plain value.Plain a b refl p
atomic_within true false s a b f p = absurd (let e = f refl in cc)
atomic_within false true s a b f p = three_within s value.Unknown value.Plain (forgotten a) b tt (forgotten_less a b p)
atomic_within false false s a b f p = three_within s value.Unknown value.Unknown (forgotten a) (forgotten b) tt (forgotten_within a b p)

within_kind : (code : Code) (s : bpf_insn) (next : Option bpf_insn) (a b : Known) (k : Kind) → IsWithin a b → IsWithin (after_kind code s next a k) (after_kind code s next b k)
within_kind code s next a b kind.Call p = within_after_result _ _ _ _ (says_call_result s a b p) (within_with_frame a b p)
within_kind code s next a b kind.Packet p = within_after_result value.Plain value.Plain a b refl p
within_kind code s next a b kind.Wide p = within_set a b (dst_reg_of s) _ _ p (says_refl (wide_value code s next))
within_kind code s next a b kind.Arithmetic p =
    within_set a b (dst_reg_of s) _ _ p (says_arithmetic code.verifier s _ _ _ _ (within_value a b (dst_reg_of s) p) (says_operand s a b p))
within_kind code s next a b kind.Load p =
    within_set a b (dst_reg_of s) _ _ p (says_loaded code s a b _ _ p (within_value a b (src_reg_of s) p))
within_kind code s next a b kind.OtherLoad p = within_set a b (dst_reg_of s) value.Plain value.Plain p refl
within_kind code s next a b kind.Atomic p = atomic_within (is_plain_atomic s a) (is_plain_atomic s b) s a b (atomic_up s a b p) p
within_kind code s next a b kind.Store p = within_store code.verifier s a b _ _ p (within_value a b (dst_reg_of s) p)
within_kind code s next a b kind.NoWrite p = p

pub within_after : (code : Code) (s : bpf_insn) (next : Option bpf_insn) (a b : Known) → IsWithin a b → IsWithin (after code s next a) (after code s next b)
within_after code s next a b p = within_kind code s next a b (kind_of s.code) p

-- A decision made with fewer known registers is the same with more.

abbrev pub IsKept : Option Bool → Option Bool → Type 0
IsKept None e = Unit {0}
IsKept (Some d) e = e ≡ Some d

kept_eq : (d e : Option Bool) → e ≡ d → IsKept d e
kept_eq None e h = tt
kept_eq (Some d) e h = h

values_eq : (code : Code) (n : ℕ) (x x' y y' : Value) → x' ≡ x → y' ≡ y → IsKept (decided_values code n x y) (decided_values code n x' y')
values_eq code n x x' y y' p q =
    kept_eq _ _ (ap (λ (o : Value). decided_values code n o y') p ∙ ap (λ (o : Value). decided_values code n x o) q)

values_kept : (code : Code) (n : ℕ) (x x' y y' : Value) → SaysNoMore x x' → SaysNoMore y y' → IsKept (decided_values code n x y) (decided_values code n x' y')
values_kept code o value.Unknown x' y y' p q = tt
values_kept code o value.Plain x' y y' p q = tt
values_kept code o (value.Number m) x' value.Unknown y' p q = tt
values_kept code o (value.Number m) x' value.Plain y' p q = tt
values_kept code o (value.Number m) x' (value.Number n) y' p q = values_eq code o (value.Number m) x' (value.Number n) y' p q
values_kept code o (value.Number m) x' value.Address y' p q = tt
values_kept code o (value.Number m) x' (value.Map n j) y' p q = tt
values_kept code o (value.Number m) x' (value.Context j) y' p q = tt
values_kept code o (value.Number m) x' (value.Frame j) y' p q = tt
values_kept code o (value.Number m) x' (value.Part n j l) y' p q = tt
values_kept code o value.Address x' value.Unknown y' p q = tt
values_kept code o value.Address x' value.Plain y' p q = tt
values_kept code o value.Address x' (value.Number n) y' p q = values_eq code o value.Address x' (value.Number n) y' p q
values_kept code o value.Address x' value.Address y' p q = tt
values_kept code o value.Address x' (value.Map n j) y' p q = tt
values_kept code o value.Address x' (value.Context j) y' p q = tt
values_kept code o value.Address x' (value.Frame j) y' p q = tt
values_kept code o value.Address x' (value.Part n j l) y' p q = tt
values_kept code o (value.Map m i) x' value.Unknown y' p q = tt
values_kept code o (value.Map m i) x' value.Plain y' p q = tt
values_kept code o (value.Map m i) x' (value.Number n) y' p q = values_eq code o (value.Map m i) x' (value.Number n) y' p q
values_kept code o (value.Map m i) x' value.Address y' p q = tt
values_kept code o (value.Map m i) x' (value.Map n j) y' p q = tt
values_kept code o (value.Map m i) x' (value.Context j) y' p q = tt
values_kept code o (value.Map m i) x' (value.Frame j) y' p q = tt
values_kept code o (value.Map m i) x' (value.Part n j l) y' p q = tt
values_kept code o (value.Context i) x' y y' p q = tt
values_kept code o (value.Frame i) x' y y' p q = tt
values_kept code o (value.Part m i k) x' y y' p q = tt

pub decided_kept : (code : Code) (s : bpf_insn) (a b : Known) → IsWithin a b → IsKept (decided code s a) (decided code s b)
decided_kept code s a b p =
    values_kept code s.code _ _ _ _ (within_value a b (dst_reg_of s) p) (says_operand s a b p)

-- The paths from a slot.

pub met_within : (f : Option (Option Known)) (a b : Known) → IsWithin a b → IsMet f a → IsMet f b
met_within None a b p h = tt
met_within (Some None) a b p h = absurd h
met_within (Some (Some there)) a b p h = within_trans there a b h p

pub all_append : (facts : Facts) (ws xs : List Way) → AllMet facts ws → AllMet facts xs → AllMet facts (ws ++ xs)
all_append facts [] xs p q = q
all_append facts (w ∷ ws) xs p q = (p.0, all_append facts ws xs p.1 q)

pub all_front : (facts : Facts) (ws xs : List Way) → AllMet facts (ws ++ xs) → AllMet facts ws
all_front facts [] xs p = tt
all_front facts (w ∷ ws) xs p = (p.0, all_front facts ws xs p.1)

pub all_back : (facts : Facts) (ws xs : List Way) → AllMet facts (ws ++ xs) → AllMet facts xs
all_back facts [] xs p = p
all_back facts (w ∷ ws) xs p = all_back facts ws xs p.1

to_index_within : (facts : Facts) (o : Option ℕ) (a b : Known) → IsWithin a b → AllMet facts (to_index o a) → AllMet facts (to_index o b)
to_index_within facts None a b p h = tt
to_index_within facts (Some n) a b p h = (met_within (fact_at facts (pos n)) a b p h.0, tt)

pub slot_within : (facts : Facts) (code : Code) (z : ℤ) (a b : Known) → IsWithin a b → AllMet facts (to_slot code z a) → AllMet facts (to_slot code z b)
slot_within facts code z a b p h = to_index_within facts (index_in (length code.slots) z) a b p h

going_within : (facts : Facts) (code : Code) (position : ℕ) (z : ℤ) (a b : Known) → IsWithin a b → AllMet facts (going code position z a) → AllMet facts (going code position z b)
going_within facts code position z a b p h =
    let out : List Way = leaving code position (index_in (length code.slots) z) in
    all_append facts (to_slot code z b) out (slot_within facts code z a b p (all_front facts (to_slot code z a) out h)) (all_back facts (to_slot code z a) out h)

along_at : (facts : Facts) (v : Bool) (ws xs : List Way) → (AllMet facts ws → AllMet facts xs) → AllMet facts (cond v [] ws) → AllMet facts (cond v [] xs)
along_at facts true ws xs f h = tt
along_at facts false ws xs f h = f h

along_within : (facts : Facts) (code : Code) (s : bpf_insn) (position : ℕ) (a b : Known) (taken : Bool) → IsWithin a b → AllMet facts (along code s position a taken) → AllMet facts (along code s position b taken)
along_within facts code s position a b taken p h =
    along_at facts (stops code s position) _ _ (going_within facts code position (pos position +ℤ distance s taken) a b p) h

branch_from : (facts : Facts) (v : Bool) (ws xs : List Way) → (AllMet facts ws → AllMet facts xs) → AllMet facts ws → AllMet facts (cond v xs [])
branch_from facts true ws xs f h = f h
branch_from facts false ws xs f h = tt

branch_both : (facts : Facts) (v : Bool) (ws xs : List Way) → (AllMet facts ws → AllMet facts xs) → AllMet facts (cond v ws []) → AllMet facts (cond v xs [])
branch_both facts true ws xs f h = f h
branch_both facts false ws xs f h = tt

branch_within : (facts : Facts) (code : Code) (s : bpf_insn) (position : ℕ) (a b : Known) (d e : Option Bool) (taken : Bool) → IsWithin a b → IsKept d e → AllMet facts (branch code s position a d taken) → AllMet facts (branch code s position b e taken)
branch_within facts code s position a b None e taken p k h =
    branch_from facts (allows e taken) _ _ (along_within facts code s position a b taken p) h
branch_within facts code s position a b (Some d) e taken p k h =
    subst (λ (o : Option Bool). AllMet facts (branch code s position b o taken)) (sym k)
    (branch_both facts (allows (Some d) taken) _ _ (along_within facts code s position a b taken p) h)

inner_within : (facts : Facts) (code : Code) (s : bpf_insn) (next : Option bpf_insn) (position : ℕ) (a b : Known) → IsWithin a b → AllMet facts (inner_ways code s next position a) → AllMet facts (inner_ways code s next position b)
inner_within facts code s next position a b p h =
    let q : IsWithin (after code s next a) (after code s next b) = within_after code s next a b p in
    let k : IsKept (decided code s a) (decided code s b) = decided_kept code s a b p in
    let one = branch code s position (after code s next a) (decided code s a) true in
    let two = branch code s position (after code s next a) (decided code s a) false in
    all_append facts _ _ (branch_within facts code s position _ _ _ _ true q k (all_front facts one two h))
    (branch_within facts code s position _ _ _ _ false q k (all_back facts one two h))

outside_plain : (b : Value) → is_plain b ≡ true → is_plain (outside b) ≡ true
outside_plain value.Unknown e = absurd (cc)
outside_plain value.Plain e = refl
outside_plain (value.Number n) e = refl
outside_plain value.Address e = refl
outside_plain (value.Map n j) e = refl
outside_plain (value.Context j) e = refl
outside_plain (value.Frame j) e = absurd (cc)
outside_plain (value.Part n j l) e = refl

says_outside : (a b : Value) → SaysNoMore a b → SaysNoMore (outside a) (outside b)
says_outside value.Unknown b p = tt
says_outside value.Plain b p = outside_plain b p
says_outside (value.Number n) b p = says_eq _ _ (ap outside p)
says_outside value.Address b p = says_eq _ _ (ap outside p)
says_outside (value.Map n j) b p = says_eq _ _ (ap outside p)
says_outside (value.Context j) b p = says_eq _ _ (ap outside p)
says_outside (value.Frame j) b p = tt
says_outside (value.Part n j l) b p = says_eq _ _ (ap outside p)

within_outside : (a b : Known) → IsWithin a b → IsWithin (map outside a) (map outside b)
within_outside [] [] p = tt
within_outside [] (t ∷ ts) p = absurd p
within_outside (s ∷ ss) [] p = absurd p
within_outside (s ∷ ss) (t ∷ ts) p = (says_outside s t p.0, within_outside ss ts p.1)

within_passed : (a b : Known) → IsWithin a b → IsWithin (passed a) (passed b)
within_passed a b p =
    (refl, within_append _ _ _ _ (within_outside _ _ (within_take _ _ 5 (within_drop a b 1 p))) (within_refl (replicate 4 value.Plain ++ value.Frame 0 ∷ replicate 21 value.Plain)))

within_entered : (code : Code) (z : ℤ) (a b : Known) → IsWithin a b → IsWithin (entered_known code z a) (entered_known code z b)
within_entered code z a b p = within_cond (is_global code z) _ _ _ _ (within_refl any_entry) (within_passed a b p)

first_at : (facts : Facts) (v : Bool) (ws xs rest : List Way) → (AllMet facts ws → AllMet facts xs) → AllMet facts (cond v ws rest) → AllMet facts (cond v xs rest)
first_at facts true ws xs rest f h = f h
first_at facts false ws xs rest f h = h

entry_within : (facts : Facts) (code : Code) (s : bpf_insn) (position : ℕ) (a b : Known) → IsWithin a b → AllMet facts (entered code s position a) → AllMet facts (entered code s position b)
entry_within facts code s position a b p h =
    first_at facts (is_pseudo_call s) _ _ _ (slot_within facts code (target s position) _ _ (within_entered code (target s position) a b p)) h

-- The result of a function.

abbrev GivesNoMore : Option Value → Option Value → Type 0
GivesNoMore None None = Unit {0}
GivesNoMore None (Some b) = ⊥
GivesNoMore (Some a) None = ⊥
GivesNoMore (Some a) (Some b) = SaysNoMore a b

gives_refl : (o : Option Value) → GivesNoMore o o
gives_refl None = tt
gives_refl (Some a) = says_refl a

gives_cond : (v : Bool) (a b : Value) (o : Option Value) → SaysNoMore a b → GivesNoMore (cond v (Some a) o) (cond v (Some b) o)
gives_cond true a b o p = p
gives_cond false a b o p = gives_refl o

gives_result : (s : bpf_insn) (a b : Known) → IsWithin a b → GivesNoMore (result_value s a) (result_value s b)
gives_result s a b p = gives_cond (eqb s.code 149) _ _ _ (says_outside _ _ (within_value a b 0 p))

ended_at : (facts : Facts) (code : Code) (position : ℕ) (o q : Option Value) → GivesNoMore o q → AllMet facts (ended_with code position o) → AllMet facts (ended_with code position q)
ended_at facts code position None None p h = tt
ended_at facts code position None (Some b) p h = absurd p
ended_at facts code position (Some a) None p h = absurd p
ended_at facts code position (Some a) (Some b) p h =
    (met_within (fact_at facts (pos (result_at code position))) (returned a) (returned b) (p, within_refl (replicate 31 value.Unknown)) h.0, tt)

ended_within : (facts : Facts) (code : Code) (s : bpf_insn) (position : ℕ) (a b : Known) → IsWithin a b → AllMet facts (ended code s position a) → AllMet facts (ended code s position b)
ended_within facts code s position a b p h = ended_at facts code position _ _ (gives_result s a b p) h

-- What is known of a result, if it is reached.
abbrev pub ResultWithin : Option Known → Option Known → Type 0
ResultWithin None None = Unit {0}
ResultWithin (Some a) None = Unit {0}
ResultWithin None (Some b) = ⊥
ResultWithin (Some a) (Some b) = IsWithin a b

back_at : (facts : Facts) (code : Code) (position : ℕ) (a b : Known) (o q : Option Known) → IsWithin a b → ResultWithin o q → AllMet facts (back_with code position a o) → AllMet facts (back_with code position b q)
back_at facts code position a b None None p r h = tt
back_at facts code position a b (Some c) None p r h = tt
back_at facts code position a b None (Some d) p r h = absurd r
back_at facts code position a b (Some c) (Some d) p r h =
    going_within facts code position (pos position +ℤ pos 1) _ _ (within_after_result _ _ _ _ (within_value c d 0 r) (within_with_frame a b p)) h

back_within : (facts : Facts) (code : Code) (s : bpf_insn) (position : ℕ) (a b : Known) (o q : Option Known) → IsWithin a b → ResultWithin o q → AllMet facts (back code s position a o) → AllMet facts (back code s position b q)
back_within facts code s position a b o q p r h =
    branch_both facts (is_static_call code s position) _ _ (back_at facts code position a b o q p r) h

-- The parts of the paths from a slot.

pub inner_met : (facts : Facts) (code : Code) (s : bpf_insn) (next : Option bpf_insn) (n : ℕ) (k : Known) (o : Option Known) → AllMet facts (ways_of code s next n k o) → AllMet facts (inner_ways code s next n k)
inner_met facts code s next n k o h =
    all_front facts (inner_ways code s next n k) (entered code s n k ++ (ended code s n k ++ back code s n k o)) h

outer_met : (facts : Facts) (code : Code) (s : bpf_insn) (next : Option bpf_insn) (n : ℕ) (k : Known) (o : Option Known) → AllMet facts (ways_of code s next n k o) → AllMet facts (entered code s n k ++ (ended code s n k ++ back code s n k o))
outer_met facts code s next n k o h =
    all_back facts (inner_ways code s next n k) (entered code s n k ++ (ended code s n k ++ back code s n k o)) h

pub entry_met : (facts : Facts) (code : Code) (s : bpf_insn) (next : Option bpf_insn) (n : ℕ) (k : Known) (o : Option Known) → AllMet facts (ways_of code s next n k o) → AllMet facts (entered code s n k)
entry_met facts code s next n k o h =
    all_front facts (entered code s n k) (ended code s n k ++ back code s n k o) (outer_met facts code s next n k o h)

ends_met : (facts : Facts) (code : Code) (s : bpf_insn) (next : Option bpf_insn) (n : ℕ) (k : Known) (o : Option Known) → AllMet facts (ways_of code s next n k o) → AllMet facts (ended code s n k ++ back code s n k o)
ends_met facts code s next n k o h =
    all_back facts (entered code s n k) (ended code s n k ++ back code s n k o) (outer_met facts code s next n k o h)

pub ended_met : (facts : Facts) (code : Code) (s : bpf_insn) (next : Option bpf_insn) (n : ℕ) (k : Known) (o : Option Known) → AllMet facts (ways_of code s next n k o) → AllMet facts (ended code s n k)
ended_met facts code s next n k o h =
    all_front facts (ended code s n k) (back code s n k o) (ends_met facts code s next n k o h)

pub back_met : (facts : Facts) (code : Code) (s : bpf_insn) (next : Option bpf_insn) (n : ℕ) (k : Known) (o : Option Known) → AllMet facts (ways_of code s next n k o) → AllMet facts (back code s n k o)
back_met facts code s next n k o h =
    all_back facts (ended code s n k) (back code s n k o) (ends_met facts code s next n k o h)

pub ways_within : (facts : Facts) (code : Code) (s : bpf_insn) (next : Option bpf_insn) (position : ℕ) (a b : Known) (o q : Option Known) → IsWithin a b → ResultWithin o q → AllMet facts (ways_of code s next position a o) → AllMet facts (ways_of code s next position b q)
ways_within facts code s next position a b o q p r h =
    all_append facts _ _ (inner_within facts code s next position a b p (inner_met facts code s next position a o h))
    (all_append facts _ _ (entry_within facts code s position a b p (entry_met facts code s next position a o h))
    (all_append facts _ _ (ended_within facts code s position a b p (ended_met facts code s next position a o h))
    (back_within facts code s position a b o q p r (back_met facts code s next position a o h))))
