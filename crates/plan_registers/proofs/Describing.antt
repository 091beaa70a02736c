-- What is known of registers describes the words in them, and goes on to do so along each step of the
-- machine.
use Rattle.std.proofs.Common.{◌≡◌, ◌≤◌, ℕ, zero, suc, ◌+◌, ◌/◌, ◌%◌, Bool, true, false, ◌&&◌, cond, List, [], ◌∷◌, ◌++◌, length, map, set, take, drop, replicate, Option, Some, None, refl, sym, ap, ◌∙◌, subst, arith, eqb, length-set, nat_lt}
use Rattle.std.specs.Int.{w32, w64, cast_unsigned}
use Rattle.plan_values.specs.Sizes.{size_of, width_of}
use Rattle.std.specs.Prelude.{not, nat_le}
use Rattle.ebpf_items.specs.declared.instruction.bpf_insn.{bpf_insn}
use Rattle.ebpf_items.specs.Instruction.{dst_reg_of, src_reg_of}
use Rattle.plan_values.specs.Arithmetic.{number_result}
use Rattle.plan_values.specs.Comparisons.{outcome}
use Rattle.plan_values.specs.declared.effects.Kind.{Kind}
use Rattle.plan_values.specs.declared.effects.Kind.TheVariants as kind
use Rattle.plan_values.specs.declared.program.Verifier.{Verifier}
use Rattle.plan_values.specs.declared.value.Value.{Value}
use Rattle.plan_values.specs.declared.value.Value.TheVariants as value
use Rattle.plan_values.specs.Values.{SaysNoMore, is_plain, outside, plain_if}
use Rattle.plan_values.specs.Knowledge.{Known, IsWithin, all_plain, any_entry, at_start, entry, forgotten, keeps_frame, unknowns, value_in}
use Rattle.plan_values.specs.Cells.{cell_at, is_aligned, is_tracked, keeps, part_of, position, read_cell, read_number, stored_value}
use Rattle.plan_values.specs.Programs.{Code, bytes_in}
use Rattle.plan_registers.proofs.Flows.{or_and, store_plain}
use Rattle.plan_values.proofs.Within.{and_both, and_left, and_right}
use Rattle.plan_values.specs.Effects.{adds, subtracts, operand, number_value, copies, moves, copied_value, paired_value, arithmetic_value, after_atomic, after_call, after_frame_store, after_kind, after_result, after_store, call_result, frame_value, is_frozen, is_plain_atomic, kind_of, loaded_value, stored_operand, stores_immediate, wide_value, wide_pair, with_frame, with_three}
use Rattle.plan_registers.specs.Flow.{allows, decided_values, decides, is_tail_call, packet_result, passed, result_value, with_address}
use Rattle.plan_registers.specs.Machine.{Word, Number, MapAddress, Address, ContextAddress, Frame, Foreign, Part, Other, Answer, Anything, AnyPlain, Exactly, AfterCall, AtomicEffect, CallEffect, Entered, FrameStore, StoreAt, MayWrite, PacketEffect, Permits, StaysTo16, StoreEffect, Writes, Effect, EndsWith, all_plain_words, arithmetic_word, copied_word, decided_words, frame_word, is_plain_atomic_word, is_plain_word, keeps_frame_words, loaded_word, number_word, operand_word, outside_word, packet_word, paired_word, plain_answer, read_number_word, read_word, result_word, stored_operand_word, stored_word, wide_pair_word, wide_word, word_at}

abbrev pub word_of : Value → Answer
word_of value.Unknown = Anything
word_of value.Plain = AnyPlain
word_of (value.Number n) = Exactly (Number n)
word_of value.Address = Exactly Address
word_of (value.Map n j) = Exactly (MapAddress n j)
word_of (value.Context j) = Exactly (ContextAddress j)
word_of (value.Frame j) = Exactly (Frame j)
word_of (value.Part n j l) = Exactly (Part n j l)

abbrev pub Describes : Value → Word → Type 0
Describes v w = Permits (word_of v) w

abbrev pub AreDescribed : Known → List Word → Type 0
AreDescribed [] [] = Unit {0}
AreDescribed [] (w ∷ ws) = ⊥
AreDescribed (v ∷ vs) [] = ⊥
AreDescribed (v ∷ vs) (w ∷ ws) = Describes v w × AreDescribed vs ws

-- A plain value describes no address of a frame.

pub plain_described : (b : Value) (w : Word) → is_plain b ≡ true → Describes b w → is_plain_word w ≡ true
plain_described value.Unknown w e d = absurd (cc)
plain_described value.Plain w e d = d
plain_described (value.Number n) w e d = ap is_plain_word d
plain_described value.Address w e d = ap is_plain_word d
plain_described (value.Map n j) w e d = ap is_plain_word d
plain_described (value.Context j) w e d = ap is_plain_word d
plain_described (value.Frame j) w e d = absurd (cc)
plain_described (value.Part n j l) w e d = ap is_plain_word d

-- Less knowledge describes too.

pub weaker : (a b : Value) (w : Word) → SaysNoMore a b → Describes b w → Describes a w
weaker value.Unknown b w p d = tt
weaker value.Plain b w p d = plain_described b w p d
weaker (value.Number n) b w p d = subst (λ (v : Value). Describes v w) p d
weaker value.Address b w p d = subst (λ (v : Value). Describes v w) p d
weaker (value.Map n j) b w p d = subst (λ (v : Value). Describes v w) p d
weaker (value.Context j) b w p d = subst (λ (v : Value). Describes v w) p d
weaker (value.Frame j) b w p d = subst (λ (v : Value). Describes v w) p d
weaker (value.Part n j l) b w p d = subst (λ (v : Value). Describes v w) p d

pub all_weaker : (a b : Known) (ws : List Word) → IsWithin a b → AreDescribed b ws → AreDescribed a ws
all_weaker [] [] ws p d = d
all_weaker [] (y ∷ ys) ws p d = absurd p
all_weaker (x ∷ xs) [] ws p d = absurd p
all_weaker (x ∷ xs) (y ∷ ys) [] p d = absurd d
all_weaker (x ∷ xs) (y ∷ ys) (w ∷ ws) p d = (weaker x y w p.0 d.0, all_weaker xs ys ws p.1 d.1)

-- Registers by index.

pub described_at : (k : Known) (ws : List Word) (r : ℕ) → AreDescribed k ws → Describes (value_in k r) (word_at ws r)
described_at [] [] r d = tt
described_at [] (w ∷ ws) r d = absurd d
described_at (v ∷ vs) [] r d = absurd d
described_at (v ∷ vs) (w ∷ ws) zero d = d.0
described_at (v ∷ vs) (w ∷ ws) (suc r) d = described_at vs ws r d.1

described_set : (k : Known) (ws : List Word) (r : ℕ) (v : Value) (w : Word) → AreDescribed k ws → Describes v w → AreDescribed (set k r v) (set ws r w)
described_set [] [] r v w d e = tt
described_set [] (y ∷ ys) r v w d e = absurd d
described_set (x ∷ xs) [] r v w d e = absurd d
described_set (x ∷ xs) (y ∷ ys) zero v w d e = (e, d.1)
described_set (x ∷ xs) (y ∷ ys) (suc r) v w d e = (d.0, described_set xs ys r v w d.1 e)

pub described_nothing : (n : ℕ) (ws : List Word) → length ws ≡ n → AreDescribed (replicate n value.Unknown) ws
described_nothing zero [] e = tt
described_nothing zero (w ∷ ws) e = absurd (omega arith)
described_nothing (suc n) [] e = absurd (omega arith)
described_nothing (suc n) (w ∷ ws) e = (tt, described_nothing n ws (omega arith))

described_drop : (k : Known) (ws : List Word) (n : ℕ) → AreDescribed k ws → AreDescribed (drop n k) (drop n ws)
described_drop k ws zero d = d
described_drop [] [] (suc n) d = tt
described_drop [] (w ∷ ws) (suc n) d = absurd d
described_drop (v ∷ vs) [] (suc n) d = absurd d
described_drop (v ∷ vs) (w ∷ ws) (suc n) d = described_drop vs ws n d.1

described_take : (k : Known) (ws : List Word) (n : ℕ) → AreDescribed k ws → AreDescribed (take n k) (take n ws)
described_take k ws zero d = tt
described_take [] [] (suc n) d = tt
described_take [] (w ∷ ws) (suc n) d = absurd d
described_take (v ∷ vs) [] (suc n) d = absurd d
described_take (v ∷ vs) (w ∷ ws) (suc n) d = (d.0, described_take vs ws n d.1)

-- What describes the first words, and then what describes the others.
described_split : (n : ℕ) (k j : Known) (ws : List Word) → AreDescribed k (take n ws) → AreDescribed j (drop n ws) → AreDescribed (k ++ j) ws
described_split zero [] j ws d e = e
described_split zero (v ∷ vs) j ws d e = absurd d
described_split (suc n) [] j [] d e = e
described_split (suc n) (v ∷ vs) j [] d e = absurd d
described_split (suc n) [] j (w ∷ ws) d e = absurd d
described_split (suc n) (v ∷ vs) j (w ∷ ws) d e = (d.0, described_split n vs j ws d.1 e)

plain_front : (n : ℕ) (k : Known) (us : List Word) → all_plain_words (take n us) ≡ true → n ≤ length us → AreDescribed k (drop n us) → AreDescribed (replicate n value.Plain ++ k) us
plain_front zero k us e h d = d
plain_front (suc n) k [] e h d = absurd (omega arith)
plain_front (suc n) k (u ∷ us) e h d =
    (and_left (is_plain_word u) (all_plain_words (take n us)) e, plain_front n k us (and_right (is_plain_word u) (all_plain_words (take n us)) e) (omega arith) d)

unknowns_described : (k : Known) (ws us : List Word) → AreDescribed k ws → length us ≡ length ws → AreDescribed (unknowns k) us
unknowns_described [] [] [] d l = tt
unknowns_described [] [] (u ∷ us) d l = absurd (omega arith)
unknowns_described [] (w ∷ ws) us d l = absurd d
unknowns_described (v ∷ vs) [] us d l = absurd d
unknowns_described (v ∷ vs) (w ∷ ws) [] d l = absurd (omega arith)
unknowns_described (v ∷ vs) (w ∷ ws) (u ∷ us) d l = (tt, unknowns_described vs ws us d.1 (omega arith))

drop_length : (ws us : List Word) (n : ℕ) → length us ≡ length ws → length (drop n us) ≡ length (drop n ws)
drop_length ws us zero l = l
drop_length [] [] (suc n) l = refl
drop_length [] (u ∷ us) (suc n) l = absurd (omega arith)
drop_length (w ∷ ws) [] (suc n) l = absurd (omega arith)
drop_length (w ∷ ws) (u ∷ us) (suc n) l = drop_length ws us n (omega arith)

-- The frame may be written.

forgotten_described : (k : Known) (ws us : List Word) → AreDescribed k ws → StaysTo16 ws us → AreDescribed (forgotten k) us
forgotten_described k ws us d h =
    described_split 16 (take 16 k) (unknowns (drop 16 k)) us
    (subst (λ (xs : List Word). AreDescribed (take 16 k) xs) (sym h.registers) (described_take k ws 16 d))
    (unknowns_described (drop 16 k) (drop 16 ws) (drop 16 us) (described_drop k ws 16 d) (drop_length ws us 16 h.size))

all_described : (k : Known) (ws : List Word) → AreDescribed k ws → all_plain k ≡ true → all_plain_words ws ≡ true
all_described [] [] d e = refl
all_described [] (w ∷ ws) d e = absurd d
all_described (v ∷ vs) [] d e = absurd d
all_described (v ∷ vs) (w ∷ ws) d e =
    and_both (is_plain_word w) (all_plain_words ws) (plain_described v w (and_left (is_plain v) (all_plain vs) e) d.0) (all_described vs ws d.1 (and_right (is_plain v) (all_plain vs) e))

keeps_described : (k : Known) (ws : List Word) → AreDescribed k ws → keeps_frame k ≡ true → keeps_frame_words ws ≡ true
keeps_described k ws d e = all_described (take 5 (drop 1 k)) (take 5 (drop 1 ws)) (described_take (drop 1 k) (drop 1 ws) 5 (described_drop k ws 1 d)) e

written_described : (v w : Bool) (k : Known) (ws us : List Word) → (v ≡ true → w ≡ true) → AreDescribed k ws → MayWrite w ws us → AreDescribed (cond v k (forgotten k)) us
written_described true w k ws us f d h = subst (λ (xs : List Word). AreDescribed k xs) (sym (h.same (f refl))) d
written_described false w k ws us f d h = forgotten_described k ws us d h.stays

-- What arithmetic and loads leave.

number_describes : (o : Option ℕ) (w : Word) → Permits (number_word o) w → Describes (number_value o) w
number_describes None w h = h
number_describes (Some n) w h = h

number_plain_word : (o : Option ℕ) (w : Word) → Permits (number_word o) w → is_plain_word w ≡ true
number_plain_word None w h = h
number_plain_word (Some n) w h = ap is_plain_word h

plain_cond : (b : Bool) (p q : Answer) (w : Word) → (Permits p w → is_plain_word w ≡ true) → (Permits q w → is_plain_word w ≡ true) → Permits (cond b p q) w → is_plain_word w ≡ true
plain_cond true p q w f g h = f h
plain_cond false p q w f g h = g h

plain_if_describes : (b : Bool) (w : Word) → Permits (plain_answer b) w → Describes (plain_if b) w
plain_if_describes true w h = h
plain_if_describes false w h = tt

cond_describes : (b : Bool) (u v : Value) (p q : Answer) (w : Word) → (Permits p w → Describes u w) → (Permits q w → Describes v w) → Permits (cond b p q) w → Describes (cond b u v) w
cond_describes true u v p q w f g h = f h
cond_describes false u v p q w f g h = g h

flag_describes : (b : Bool) (o : Option ℕ) (w : Word) → Permits (number_word o) w → Describes (number_value (cond b None o)) w
flag_describes true o w h = number_plain_word o w h
flag_describes false o w h = number_describes o w h

copied_word_plain : (s : bpf_insn) (wy w : Word) → is_plain_word wy ≡ true → Permits (copied_word s wy) w → is_plain_word w ≡ true
copied_word_plain s (Number n) w e h = number_plain_word (number_result s 0 n) w h
copied_word_plain s (MapAddress n j) w e h = h
copied_word_plain s Address w e h = h
copied_word_plain s (ContextAddress j) w e h = h
copied_word_plain s (Frame j) w e h = absurd (cc)
copied_word_plain s Foreign w e h = absurd (cc)
copied_word_plain s (Part n j l) w e h = h
copied_word_plain s Other w e h = h

copied_describes : (v : Verifier) (s : bpf_insn) (y : Value) (wy w : Word) → Describes y wy → Permits (copied_word s wy) w → Describes (copied_value v s y) w
copied_describes v s value.Unknown wy w d h = tt
copied_describes v s value.Plain wy w d h = copied_word_plain s wy w (plain_described value.Plain wy refl d) h
copied_describes v s (value.Number n) wy w d h =
    flag_describes _ (number_result s 0 n) w (subst (λ (x : Word). Permits (copied_word s x) w) d h)
copied_describes v s value.Address wy w d h = copied_word_plain s wy w (plain_described value.Address wy refl d) h
copied_describes v s (value.Map n j) wy w d h = copied_word_plain s wy w (plain_described (value.Map n j) wy refl d) h
copied_describes v s (value.Context j) wy w d h = copied_word_plain s wy w (plain_described (value.Context j) wy refl d) h
copied_describes v s (value.Frame j) wy w d h = tt
copied_describes v s (value.Part n j l) wy w d h = copied_word_plain s wy w (plain_described (value.Part n j l) wy refl d) h

both_words : (s : bpf_insn) (wx wy x y w : Word) → wx ≡ x → wy ≡ y → Permits (paired_word s wx wy) w → Permits (paired_word s x y) w
both_words s wx wy x y w p q h =
    subst (λ (u : Word). Permits (paired_word s x u) w) q (subst (λ (u : Word). Permits (paired_word s u wy) w) p h)

paired_word_plain : (s : bpf_insn) (wx wy w : Word) → is_plain_word wx ≡ true → is_plain_word wy ≡ true → Permits (paired_word s wx wy) w → is_plain_word w ≡ true
paired_word_plain s (Number m) (Number n) w e f h = number_plain_word (number_result s m n) w h
paired_word_plain s (Number m) (MapAddress n j) w e f h = plain_cond (eqb s.code 15) _ _ w (λ p. ap is_plain_word p) (λ p. p) h
paired_word_plain s (Number m) Address w e f h = h
paired_word_plain s (Number m) (ContextAddress j) w e f h = plain_cond (eqb s.code 15) _ _ w (λ p. ap is_plain_word p) (λ p. p) h
paired_word_plain s (Number m) (Frame j) w e f h = absurd (cc)
paired_word_plain s (Number m) Foreign w e f h = absurd (cc)
paired_word_plain s (Number m) (Part n j l) w e f h = h
paired_word_plain s (Number m) Other w e f h = h
paired_word_plain s (MapAddress m i) (Number n) w e f h = plain_cond (adds s) _ _ w (λ p. ap is_plain_word p) (plain_cond (subtracts s) _ _ w (λ p. ap is_plain_word p) (λ p. p)) h
paired_word_plain s (MapAddress m i) (MapAddress n j) w e f h = h
paired_word_plain s (MapAddress m i) Address w e f h = h
paired_word_plain s (MapAddress m i) (ContextAddress j) w e f h = h
paired_word_plain s (MapAddress m i) (Frame j) w e f h = absurd (cc)
paired_word_plain s (MapAddress m i) Foreign w e f h = absurd (cc)
paired_word_plain s (MapAddress m i) (Part n j l) w e f h = h
paired_word_plain s (MapAddress m i) Other w e f h = h
paired_word_plain s Address (Number n) w e f h = h
paired_word_plain s Address (MapAddress n j) w e f h = h
paired_word_plain s Address Address w e f h = h
paired_word_plain s Address (ContextAddress j) w e f h = h
paired_word_plain s Address (Frame j) w e f h = absurd (cc)
paired_word_plain s Address Foreign w e f h = absurd (cc)
paired_word_plain s Address (Part n j l) w e f h = h
paired_word_plain s Address Other w e f h = h
paired_word_plain s (ContextAddress i) (Number n) w e f h = plain_cond (adds s) _ _ w (λ p. ap is_plain_word p) (plain_cond (subtracts s) _ _ w (λ p. ap is_plain_word p) (λ p. p)) h
paired_word_plain s (ContextAddress i) (MapAddress n j) w e f h = h
paired_word_plain s (ContextAddress i) Address w e f h = h
paired_word_plain s (ContextAddress i) (ContextAddress j) w e f h = h
paired_word_plain s (ContextAddress i) (Frame j) w e f h = absurd (cc)
paired_word_plain s (ContextAddress i) Foreign w e f h = absurd (cc)
paired_word_plain s (ContextAddress i) (Part n j l) w e f h = h
paired_word_plain s (ContextAddress i) Other w e f h = h
paired_word_plain s (Frame i) (Number n) w e f h = absurd (cc)
paired_word_plain s (Frame i) (MapAddress n j) w e f h = absurd (cc)
paired_word_plain s (Frame i) Address w e f h = absurd (cc)
paired_word_plain s (Frame i) (ContextAddress j) w e f h = absurd (cc)
paired_word_plain s (Frame i) (Frame j) w e f h = absurd (cc)
paired_word_plain s (Frame i) Foreign w e f h = absurd (cc)
paired_word_plain s (Frame i) (Part n j l) w e f h = absurd (cc)
paired_word_plain s (Frame i) Other w e f h = absurd (cc)
paired_word_plain s Foreign (Number n) w e f h = absurd (cc)
paired_word_plain s Foreign (MapAddress n j) w e f h = absurd (cc)
paired_word_plain s Foreign Address w e f h = absurd (cc)
paired_word_plain s Foreign (ContextAddress j) w e f h = absurd (cc)
paired_word_plain s Foreign (Frame j) w e f h = absurd (cc)
paired_word_plain s Foreign Foreign w e f h = absurd (cc)
paired_word_plain s Foreign (Part n j l) w e f h = absurd (cc)
paired_word_plain s Foreign Other w e f h = absurd (cc)
paired_word_plain s (Part m i k) (Number n) w e f h = h
paired_word_plain s (Part m i k) (MapAddress n j) w e f h = h
paired_word_plain s (Part m i k) Address w e f h = h
paired_word_plain s (Part m i k) (ContextAddress j) w e f h = h
paired_word_plain s (Part m i k) (Frame j) w e f h = absurd (cc)
paired_word_plain s (Part m i k) Foreign w e f h = absurd (cc)
paired_word_plain s (Part m i k) (Part n j l) w e f h = h
paired_word_plain s (Part m i k) Other w e f h = h
paired_word_plain s Other (Number n) w e f h = h
paired_word_plain s Other (MapAddress n j) w e f h = h
paired_word_plain s Other Address w e f h = h
paired_word_plain s Other (ContextAddress j) w e f h = h
paired_word_plain s Other (Frame j) w e f h = absurd (cc)
paired_word_plain s Other Foreign w e f h = absurd (cc)
paired_word_plain s Other (Part n j l) w e f h = h
paired_word_plain s Other Other w e f h = h

paired_describes : (v : Verifier) (s : bpf_insn) (x y : Value) (wx wy w : Word) → Describes x wx → Describes y wy → Permits (paired_word s wx wy) w → Describes (paired_value v s x y) w
paired_describes v s value.Unknown value.Unknown wx wy w d e h = tt
paired_describes v s value.Unknown value.Plain wx wy w d e h = tt
paired_describes v s value.Unknown (value.Number n) wx wy w d e h = tt
paired_describes v s value.Unknown value.Address wx wy w d e h = tt
paired_describes v s value.Unknown (value.Map n j) wx wy w d e h = tt
paired_describes v s value.Unknown (value.Context j) wx wy w d e h = tt
paired_describes v s value.Unknown (value.Frame j) wx wy w d e h = tt
paired_describes v s value.Unknown (value.Part n j l) wx wy w d e h = tt
paired_describes v s value.Plain value.Unknown wx wy w d e h = tt
paired_describes v s value.Plain value.Plain wx wy w d e h = paired_word_plain s wx wy w (plain_described value.Plain wx refl d) (plain_described value.Plain wy refl e) h
paired_describes v s value.Plain (value.Number n) wx wy w d e h = paired_word_plain s wx wy w (plain_described value.Plain wx refl d) (plain_described (value.Number n) wy refl e) h
paired_describes v s value.Plain value.Address wx wy w d e h = paired_word_plain s wx wy w (plain_described value.Plain wx refl d) (plain_described value.Address wy refl e) h
paired_describes v s value.Plain (value.Map n j) wx wy w d e h = paired_word_plain s wx wy w (plain_described value.Plain wx refl d) (plain_described (value.Map n j) wy refl e) h
paired_describes v s value.Plain (value.Context j) wx wy w d e h = paired_word_plain s wx wy w (plain_described value.Plain wx refl d) (plain_described (value.Context j) wy refl e) h
paired_describes v s value.Plain (value.Frame j) wx wy w d e h = tt
paired_describes v s value.Plain (value.Part n j l) wx wy w d e h = paired_word_plain s wx wy w (plain_described value.Plain wx refl d) (plain_described (value.Part n j l) wy refl e) h
paired_describes v s (value.Number m) value.Unknown wx wy w d e h = tt
paired_describes v s (value.Number m) value.Plain wx wy w d e h = paired_word_plain s wx wy w (plain_described (value.Number m) wx refl d) (plain_described value.Plain wy refl e) h
paired_describes v s (value.Number m) (value.Number n) wx wy w d e h = flag_describes _ (number_result s m n) w (both_words s wx wy (Number m) (Number n) w d e h)
paired_describes v s (value.Number m) value.Address wx wy w d e h = paired_word_plain s wx wy w (plain_described (value.Number m) wx refl d) (plain_described value.Address wy refl e) h
paired_describes v s (value.Number m) (value.Map n j) wx wy w d e h = cond_describes (eqb s.code 15) _ _ _ _ w (λ p. p) (λ p. p) (both_words s wx wy (Number m) (MapAddress n j) w d e h)
paired_describes v s (value.Number m) (value.Context j) wx wy w d e h = cond_describes (eqb s.code 15) _ _ _ _ w (λ p. p) (λ p. p) (both_words s wx wy (Number m) (ContextAddress j) w d e h)
paired_describes v s (value.Number m) (value.Frame j) wx wy w d e h = cond_describes (eqb s.code 15) _ _ _ _ w (λ p. p) (λ p. tt) (both_words s wx wy (Number m) (Frame j) w d e h)
paired_describes v s (value.Number m) (value.Part n j l) wx wy w d e h = paired_word_plain s wx wy w (plain_described (value.Number m) wx refl d) (plain_described (value.Part n j l) wy refl e) h
paired_describes v s value.Address value.Unknown wx wy w d e h = tt
paired_describes v s value.Address value.Plain wx wy w d e h = paired_word_plain s wx wy w (plain_described value.Address wx refl d) (plain_described value.Plain wy refl e) h
paired_describes v s value.Address (value.Number n) wx wy w d e h = paired_word_plain s wx wy w (plain_described value.Address wx refl d) (plain_described (value.Number n) wy refl e) h
paired_describes v s value.Address value.Address wx wy w d e h = paired_word_plain s wx wy w (plain_described value.Address wx refl d) (plain_described value.Address wy refl e) h
paired_describes v s value.Address (value.Map n j) wx wy w d e h = paired_word_plain s wx wy w (plain_described value.Address wx refl d) (plain_described (value.Map n j) wy refl e) h
paired_describes v s value.Address (value.Context j) wx wy w d e h = paired_word_plain s wx wy w (plain_described value.Address wx refl d) (plain_described (value.Context j) wy refl e) h
paired_describes v s value.Address (value.Frame j) wx wy w d e h = tt
paired_describes v s value.Address (value.Part n j l) wx wy w d e h = paired_word_plain s wx wy w (plain_described value.Address wx refl d) (plain_described (value.Part n j l) wy refl e) h
paired_describes v s (value.Map m i) value.Unknown wx wy w d e h = tt
paired_describes v s (value.Map m i) value.Plain wx wy w d e h = paired_word_plain s wx wy w (plain_described (value.Map m i) wx refl d) (plain_described value.Plain wy refl e) h
paired_describes v s (value.Map m i) (value.Number n) wx wy w d e h = cond_describes (adds s) _ _ _ _ w (λ p. p) (cond_describes (subtracts s) _ _ _ _ w (λ p. p) (λ p. p)) (both_words s wx wy (MapAddress m i) (Number n) w d e h)
paired_describes v s (value.Map m i) value.Address wx wy w d e h = paired_word_plain s wx wy w (plain_described (value.Map m i) wx refl d) (plain_described value.Address wy refl e) h
paired_describes v s (value.Map m i) (value.Map n j) wx wy w d e h = paired_word_plain s wx wy w (plain_described (value.Map m i) wx refl d) (plain_described (value.Map n j) wy refl e) h
paired_describes v s (value.Map m i) (value.Context j) wx wy w d e h = paired_word_plain s wx wy w (plain_described (value.Map m i) wx refl d) (plain_described (value.Context j) wy refl e) h
paired_describes v s (value.Map m i) (value.Frame j) wx wy w d e h = tt
paired_describes v s (value.Map m i) (value.Part n j l) wx wy w d e h = paired_word_plain s wx wy w (plain_described (value.Map m i) wx refl d) (plain_described (value.Part n j l) wy refl e) h
paired_describes v s (value.Context i) value.Unknown wx wy w d e h = tt
paired_describes v s (value.Context i) value.Plain wx wy w d e h = paired_word_plain s wx wy w (plain_described (value.Context i) wx refl d) (plain_described value.Plain wy refl e) h
paired_describes v s (value.Context i) (value.Number n) wx wy w d e h = cond_describes (adds s) _ _ _ _ w (λ p. p) (cond_describes (subtracts s) _ _ _ _ w (λ p. p) (λ p. p)) (both_words s wx wy (ContextAddress i) (Number n) w d e h)
paired_describes v s (value.Context i) value.Address wx wy w d e h = paired_word_plain s wx wy w (plain_described (value.Context i) wx refl d) (plain_described value.Address wy refl e) h
paired_describes v s (value.Context i) (value.Map n j) wx wy w d e h = paired_word_plain s wx wy w (plain_described (value.Context i) wx refl d) (plain_described (value.Map n j) wy refl e) h
paired_describes v s (value.Context i) (value.Context j) wx wy w d e h = paired_word_plain s wx wy w (plain_described (value.Context i) wx refl d) (plain_described (value.Context j) wy refl e) h
paired_describes v s (value.Context i) (value.Frame j) wx wy w d e h = tt
paired_describes v s (value.Context i) (value.Part n j l) wx wy w d e h = paired_word_plain s wx wy w (plain_described (value.Context i) wx refl d) (plain_described (value.Part n j l) wy refl e) h
paired_describes v s (value.Frame i) value.Unknown wx wy w d e h = tt
paired_describes v s (value.Frame i) value.Plain wx wy w d e h = tt
paired_describes v s (value.Frame i) (value.Number n) wx wy w d e h = cond_describes (adds s) _ _ _ _ w (λ p. p) (cond_describes (subtracts s) _ _ _ _ w (λ p. p) (λ p. tt)) (both_words s wx wy (Frame i) (Number n) w d e h)
paired_describes v s (value.Frame i) value.Address wx wy w d e h = tt
paired_describes v s (value.Frame i) (value.Map n j) wx wy w d e h = tt
paired_describes v s (value.Frame i) (value.Context j) wx wy w d e h = tt
paired_describes v s (value.Frame i) (value.Frame j) wx wy w d e h = tt
paired_describes v s (value.Frame i) (value.Part n j l) wx wy w d e h = tt
paired_describes v s (value.Part m i k) value.Unknown wx wy w d e h = tt
paired_describes v s (value.Part m i k) value.Plain wx wy w d e h = paired_word_plain s wx wy w (plain_described (value.Part m i k) wx refl d) (plain_described value.Plain wy refl e) h
paired_describes v s (value.Part m i k) (value.Number n) wx wy w d e h = paired_word_plain s wx wy w (plain_described (value.Part m i k) wx refl d) (plain_described (value.Number n) wy refl e) h
paired_describes v s (value.Part m i k) value.Address wx wy w d e h = paired_word_plain s wx wy w (plain_described (value.Part m i k) wx refl d) (plain_described value.Address wy refl e) h
paired_describes v s (value.Part m i k) (value.Map n j) wx wy w d e h = paired_word_plain s wx wy w (plain_described (value.Part m i k) wx refl d) (plain_described (value.Map n j) wy refl e) h
paired_describes v s (value.Part m i k) (value.Context j) wx wy w d e h = paired_word_plain s wx wy w (plain_described (value.Part m i k) wx refl d) (plain_described (value.Context j) wy refl e) h
paired_describes v s (value.Part m i k) (value.Frame j) wx wy w d e h = tt
paired_describes v s (value.Part m i k) (value.Part n j l) wx wy w d e h = paired_word_plain s wx wy w (plain_described (value.Part m i k) wx refl d) (plain_described (value.Part n j l) wy refl e) h

arithmetic_describes : (v : Verifier) (s : bpf_insn) (x y : Value) (wx wy w : Word) → Describes x wx → Describes y wy → Permits (arithmetic_word s wx wy) w → Describes (arithmetic_value v s x y) w
unfolding arithmetic_value
arithmetic_describes v s x y wx wy w d e h =
    cond_describes (copies s) _ _ _ _ w (λ p. subst (λ (u : Word). Describes y u) (sym p) e)
    (cond_describes (moves s) _ _ _ _ w (copied_describes v s y wy w e) (paired_describes v s x y wx wy w d e)) h

map_describes : (b flag : Bool) (map offset : ℕ) (w : Word) → Permits (cond b (Exactly (MapAddress map offset)) (Exactly Address)) w → Describes (cond b (value.Map map offset) (cond flag value.Address value.Plain)) w
map_describes true flag map offset w h = h
map_describes false true map offset w h = h
map_describes false false map offset w h = ap is_plain_word h

pair_describes : (code : Code) (source low high : ℕ) (w : Word) → Permits (wide_pair_word code source low high) w → Describes (wide_pair code source low high) w
pair_describes code source low high w h =
    cond_describes (eqb source 0) _ _ _ _ w (λ p. p)
    (cond_describes (eqb source 2) _ _ _ _ w (map_describes (is_frozen code low) code.verifier.map_values low high w)
    (cond_describes (eqb source 3 && code.verifier.functions) _ _ _ _ w (λ p. p) (plain_if_describes (not (eqb source 4)) w))) h

wide_describes : (code : Code) (s : bpf_insn) (next : Option bpf_insn) (w : Word) → Permits (wide_word code s next) w → Describes (wide_value code s next) w
unfolding wide_value
wide_describes code s None w h = tt
wide_describes code s (Some next) w h = pair_describes code (src_reg_of s) (cast_unsigned w32 s.imm) (cast_unsigned w32 next.imm) w h

-- What is read and stored.

number_read : (number start size first width : ℕ) (w : Word) → Permits (read_number_word number start size first width) w → Describes (read_number number start size first width) w
number_read number start size first width w h =
    cond_describes (eqb start first && eqb size width) _ _ _ _ w (λ p. p) (cond_describes (eqb number 0 && (nat_le start first && nat_le (first + width) (start + size))) _ _ _ _ w (λ p. p) (λ p. p)) h

number_read_plain : (number start size first width : ℕ) (w : Word) → Permits (read_number_word number start size first width) w → is_plain_word w ≡ true
number_read_plain number start size first width w h =
    plain_cond (eqb start first && eqb size width) _ _ w (λ p. ap is_plain_word p) (plain_cond (eqb number 0 && (nat_le start first && nat_le (first + width) (start + size))) _ _ w (λ p. ap is_plain_word p) (λ p. p)) h

narrow_permits : (b : Bool) (p : Answer) (w : Word) → b ≡ false → Permits (cond b p AnyPlain) w → is_plain_word w ≡ true
narrow_permits true p w e h = absurd (cc)
narrow_permits false p w e h = h

narrow_describes : (b : Bool) (v : Value) (w : Word) → (b ≡ true → Describes v w) → (b ≡ false → is_plain_word w ≡ true) → Describes (cond b v value.Plain) w
narrow_describes true v w f g = f refl
narrow_describes false v w f g = g refl

read_word_plain : (word : Word) (first width : ℕ) (w : Word) → is_plain_word word ≡ true → Permits (read_word word first width) w → is_plain_word w ≡ true
read_word_plain (Number n) first width w e h = number_read_plain n 0 8 first width w h
read_word_plain (MapAddress n j) first width w e h = plain_cond (eqb width 8) _ _ w (λ p. ap is_plain_word p) (λ p. p) h
read_word_plain Address first width w e h = plain_cond (eqb width 8) _ _ w (λ p. ap is_plain_word p) (λ p. p) h
read_word_plain (ContextAddress j) first width w e h = plain_cond (eqb width 8) _ _ w (λ p. ap is_plain_word p) (λ p. p) h
read_word_plain (Frame j) first width w e h = absurd (cc)
read_word_plain Foreign first width w e h = absurd (cc)
read_word_plain (Part n j l) first width w e h = number_read_plain n j l first width w h
read_word_plain Other first width w e h = plain_cond (eqb width 8) _ _ w (λ p. ap is_plain_word p) (λ p. p) h

read_word_narrow : (word : Word) (first width : ℕ) (w : Word) → eqb width 8 ≡ false → Permits (read_word word first width) w → is_plain_word w ≡ true
read_word_narrow (Number n) first width w e h = number_read_plain n 0 8 first width w h
read_word_narrow (MapAddress n j) first width w e h = narrow_permits (eqb width 8) (Exactly (MapAddress n j)) w e h
read_word_narrow Address first width w e h = narrow_permits (eqb width 8) (Exactly Address) w e h
read_word_narrow (ContextAddress j) first width w e h = narrow_permits (eqb width 8) (Exactly (ContextAddress j)) w e h
read_word_narrow (Frame j) first width w e h = narrow_permits (eqb width 8) (Exactly (Frame j)) w e h
read_word_narrow Foreign first width w e h = narrow_permits (eqb width 8) (Exactly Foreign) w e h
read_word_narrow (Part n j l) first width w e h = number_read_plain n j l first width w h
read_word_narrow Other first width w e h = narrow_permits (eqb width 8) (Exactly Other) w e h

read_describes : (v : Value) (word : Word) (first width : ℕ) (w : Word) → Describes v word → Permits (read_word word first width) w → Describes (read_cell v first width) w
unfolding read_cell
read_describes value.Unknown word first width w d h = narrow_describes (eqb width 8) value.Unknown w (λ e. tt) (λ e. read_word_narrow word first width w e h)
read_describes value.Plain word first width w d h = narrow_describes (eqb width 8) value.Plain w (λ e. read_word_plain word first width w d h) (λ e. read_word_narrow word first width w e h)
read_describes (value.Number n) word first width w d h = number_read n 0 8 first width w (subst (λ (x : Word). Permits (read_word x first width) w) d h)
read_describes value.Address word first width w d h = cond_describes (eqb width 8) _ _ _ _ w (λ p. p) (λ p. p) (subst (λ (x : Word). Permits (read_word x first width) w) d h)
read_describes (value.Map n j) word first width w d h = cond_describes (eqb width 8) _ _ _ _ w (λ p. p) (λ p. p) (subst (λ (x : Word). Permits (read_word x first width) w) d h)
read_describes (value.Context j) word first width w d h = cond_describes (eqb width 8) _ _ _ _ w (λ p. p) (λ p. p) (subst (λ (x : Word). Permits (read_word x first width) w) d h)
read_describes (value.Frame j) word first width w d h = cond_describes (eqb width 8) _ _ _ _ w (λ p. p) (λ p. p) (subst (λ (x : Word). Permits (read_word x first width) w) d h)
read_describes (value.Part n j l) word first width w d h = number_read n j l first width w (subst (λ (x : Word). Permits (read_word x first width) w) d h)

stored_word_plain : (first width : ℕ) (word w : Word) → is_plain_word word ≡ true → Permits (stored_word first width word) w → is_plain_word w ≡ true
stored_word_plain first width (Number n) w e h = plain_cond (eqb width 8) _ _ w (λ p. ap is_plain_word p) (λ p. ap is_plain_word p) h
stored_word_plain first width (MapAddress n j) w e h = plain_cond (eqb width 8) _ _ w (λ p. ap is_plain_word p) (λ p. p) h
stored_word_plain first width Address w e h = plain_cond (eqb width 8) _ _ w (λ p. ap is_plain_word p) (λ p. p) h
stored_word_plain first width (ContextAddress j) w e h = plain_cond (eqb width 8) _ _ w (λ p. ap is_plain_word p) (λ p. p) h
stored_word_plain first width (Frame j) w e h = absurd (cc)
stored_word_plain first width Foreign w e h = absurd (cc)
stored_word_plain first width (Part n j l) w e h = plain_cond (eqb width 8) _ _ w (λ p. ap is_plain_word p) (λ p. p) h
stored_word_plain first width Other w e h = plain_cond (eqb width 8) _ _ w (λ p. ap is_plain_word p) (λ p. p) h

number_narrow : (b : Bool) (x y w : Word) → is_plain_word y ≡ true → b ≡ false → Permits (cond b (Exactly x) (Exactly y)) w → is_plain_word w ≡ true
number_narrow true x y w e f h = absurd (cc)
number_narrow false x y w e f h = ap is_plain_word h ∙ e

stored_word_narrow : (first width : ℕ) (word w : Word) → eqb width 8 ≡ false → Permits (stored_word first width word) w → is_plain_word w ≡ true
stored_word_narrow first width (Number n) w e h = number_narrow (eqb width 8) (Number n) (Part n first width) w refl e h
stored_word_narrow first width (MapAddress n j) w e h = narrow_permits (eqb width 8) (Exactly (MapAddress n j)) w e h
stored_word_narrow first width Address w e h = narrow_permits (eqb width 8) (Exactly Address) w e h
stored_word_narrow first width (ContextAddress j) w e h = narrow_permits (eqb width 8) (Exactly (ContextAddress j)) w e h
stored_word_narrow first width (Frame j) w e h = narrow_permits (eqb width 8) (Exactly (Frame j)) w e h
stored_word_narrow first width Foreign w e h = narrow_permits (eqb width 8) (Exactly Foreign) w e h
stored_word_narrow first width (Part n j l) w e h = narrow_permits (eqb width 8) (Exactly (Part n j l)) w e h
stored_word_narrow first width Other w e h = narrow_permits (eqb width 8) (Exactly Other) w e h

number_stored : (b : Bool) (number first width : ℕ) (w : Word) → Permits (stored_word first width (Number number)) w → Describes (cond b (part_of number first width) value.Plain) w
number_stored true number first width w h = cond_describes (eqb width 8) _ _ _ _ w (λ p. p) (λ p. p) h
number_stored false number first width w h = stored_word_plain first width (Number number) w refl h

stored_describes : (v : Verifier) (imm : Bool) (first width : ℕ) (x : Value) (word w : Word) → Describes x word → Permits (stored_word first width word) w → Describes (stored_value v imm first width x) w
unfolding stored_value
stored_describes v imm first width value.Unknown word w d h = narrow_describes (eqb width 8) value.Unknown w (λ e. tt) (λ e. stored_word_narrow first width word w e h)
stored_describes v imm first width value.Plain word w d h = narrow_describes (eqb width 8) value.Plain w (λ e. stored_word_plain first width word w d h) (λ e. stored_word_narrow first width word w e h)
stored_describes v imm first width (value.Number n) word w d h = number_stored (keeps v imm n first width) n first width w (subst (λ (x : Word). Permits (stored_word first width x) w) d h)
stored_describes v imm first width value.Address word w d h = cond_describes (eqb width 8) _ _ _ _ w (λ p. p) (λ p. p) (subst (λ (x : Word). Permits (stored_word first width x) w) d h)
stored_describes v imm first width (value.Map n j) word w d h = cond_describes (eqb width 8) _ _ _ _ w (λ p. p) (λ p. p) (subst (λ (x : Word). Permits (stored_word first width x) w) d h)
stored_describes v imm first width (value.Context j) word w d h = cond_describes (eqb width 8) _ _ _ _ w (λ p. p) (λ p. p) (subst (λ (x : Word). Permits (stored_word first width x) w) d h)
stored_describes v imm first width (value.Frame j) word w d h = cond_describes (eqb width 8) _ _ _ _ w (λ p. p) (λ p. p) (subst (λ (x : Word). Permits (stored_word first width x) w) d h)
stored_describes v imm first width (value.Part n j l) word w d h = cond_describes (eqb width 8) _ _ _ _ w (λ p. p) (λ p. p) (subst (λ (x : Word). Permits (stored_word first width x) w) d h)

frame_describes : (k : Known) (ws : List Word) (at width : ℕ) (w : Word) → AreDescribed k ws → Permits (frame_word ws at width) w → Describes (frame_value k at width) w
frame_describes k ws at width w d h =
    cond_describes (is_tracked at && is_aligned at width) _ _ _ _ w (read_describes (value_in k (cell_at at)) (word_at ws (cell_at at)) (at % 8) width w (described_at k ws (cell_at at) d)) (plain_if_describes (not (eqb width 8)) w) h

loaded_word_plain : (code : Code) (s : bpf_insn) (ws : List Word) (word w : Word) → is_plain_word word ≡ true → Permits (loaded_word code s ws word) w → is_plain_word w ≡ true
loaded_word_plain code s ws (Number n) w e h = h
loaded_word_plain code s ws (MapAddress n j) w e h = number_plain_word _ w h
loaded_word_plain code s ws Address w e h = h
loaded_word_plain code s ws (ContextAddress j) w e h = h
loaded_word_plain code s ws (Frame j) w e h = absurd (cc)
loaded_word_plain code s ws Foreign w e h = absurd (cc)
loaded_word_plain code s ws (Part n j l) w e h = h
loaded_word_plain code s ws Other w e h = h

loaded_describes : (code : Code) (s : bpf_insn) (k : Known) (ws : List Word) (a : Value) (word w : Word) → AreDescribed k ws → Describes a word → Permits (loaded_word code s ws word) w → Describes (loaded_value code s k a) w
unfolding loaded_value
loaded_describes code s k ws value.Unknown word w t d h = tt
loaded_describes code s k ws value.Plain word w t d h = loaded_word_plain code s ws word w (plain_described value.Plain word refl d) h
loaded_describes code s k ws (value.Number n) word w t d h = loaded_word_plain code s ws word w (plain_described (value.Number n) word refl d) h
loaded_describes code s k ws value.Address word w t d h = loaded_word_plain code s ws word w (plain_described value.Address word refl d) h
loaded_describes code s k ws (value.Map n j) word w t d h = number_describes _ w (subst (λ (x : Word). Permits (loaded_word code s ws x) w) d h)
loaded_describes code s k ws (value.Context j) word w t d h = loaded_word_plain code s ws word w (plain_described (value.Context j) word refl d) h
loaded_describes code s k ws (value.Frame j) word w t d h = frame_describes k ws (position j (cast_unsigned w64 s.off)) (width_of (size_of s.code)) w t (subst (λ (x : Word). Permits (loaded_word code s ws x) w) d h)
loaded_describes code s k ws (value.Part n j l) word w t d h = loaded_word_plain code s ws word w (plain_described (value.Part n j l) word refl d) h

cond_described : (b : Bool) (u v : Value) (x y : Word) → Describes u x → Describes v y → Describes (cond b u v) (cond b x y)
cond_described true u v x y p q = p
cond_described false u v x y p q = q

pub operand_described : (s : bpf_insn) (k : Known) (ws : List Word) → AreDescribed k ws → Describes (operand s k) (operand_word s ws)
operand_described s k ws d = cond_described (eqb (s.code / 8 % 2) 1) _ _ _ _ (described_at k ws (src_reg_of s) d) refl

-- The words that an instruction leaves.

written : (k : Known) (ws us : List Word) (r : ℕ) (v : Value) (o : Answer) → AreDescribed k ws → ((w : Word) → Permits o w → Describes v w) → Writes ws us r o → AreDescribed (set k r v) us
written k ws us r v o d f h =
    subst (λ (xs : List Word). AreDescribed (set k r v) xs) (sym h.2) (described_set k ws r v h.0 d (f h.0 h.1))

-- A store.

stored_operand_described : (s : bpf_insn) (k : Known) (ws : List Word) → AreDescribed k ws → Describes (stored_operand s k) (stored_operand_word s ws)
stored_operand_described s k ws d = cond_described (stores_immediate s) _ _ _ _ refl (described_at k ws (src_reg_of s) d)

stored_at : (b c : Bool) (k : Known) (ws us : List Word) (i : ℕ) (x : Value) (o : Answer) → AreDescribed k ws → ((w : Word) → Permits o w → Describes x w) → StoreAt b c ws us i o → AreDescribed (cond b (cond c (set k i x) k) (forgotten k)) us
stored_at false c k ws us i x o d f h = forgotten_described k ws us d h
stored_at true true k ws us i x o d f h = written k ws us i x o d f h
stored_at true false k ws us i x o d f h = subst (λ (xs : List Word). AreDescribed k xs) (sym h) d

frame_store_described : (v : Verifier) (s : bpf_insn) (k : Known) (ws us : List Word) (at width : ℕ) → AreDescribed k ws → FrameStore s ws us at width → AreDescribed (after_frame_store v s k at width) us
frame_store_described v s k ws us at width d h =
    stored_at (is_aligned at width) (is_tracked at) k ws us (cell_at at) _ (stored_word (at % 8) width (stored_operand_word s ws)) d
    (λ w p. stored_describes v (stores_immediate s) (at % 8) width (stored_operand s k) (stored_operand_word s ws) w (stored_operand_described s k ws d) p) h

take_set : (ws : List Word) (n i : ℕ) (w : Word) → n ≤ i → take n (set ws i w) ≡ take n ws
take_set ws zero i w h = refl
take_set [] (suc n) i w h = refl
take_set (x ∷ xs) (suc n) zero w h = absurd (omega arith)
take_set (x ∷ xs) (suc n) (suc i) w h = ap (λ (r : List Word). x ∷ r) (take_set xs n i w (omega arith))

stays_same : (ws us : List Word) → us ≡ ws → StaysTo16 ws us
stays_same ws us e = record { size = ap length e; registers = ap (λ (xs : List Word). take 16 xs) e }

stays_written : (ws us : List Word) (i : ℕ) (o : Answer) → 16 ≤ i → Writes ws us i o → StaysTo16 ws us
stays_written ws us i o h w = record {
  size = ap length w.2 ∙ length-set ws i w.0;
  registers = ap (λ (xs : List Word). take 16 xs) w.2 ∙ take_set ws 16 i w.0 h;
}

stays_at : (b c : Bool) (ws us : List Word) (i : ℕ) (o : Answer) → 16 ≤ i → StoreAt b c ws us i o → StaysTo16 ws us
stays_at false c ws us i o h g = g
stays_at true true ws us i o h g = stays_written ws us i o h g
stays_at true false ws us i o h g = stays_same ws us g

cell_high : (at : ℕ) → 16 ≤ cell_at at
cell_high at = omega arith

frame_stays : (s : bpf_insn) (ws us : List Word) (at width : ℕ) → FrameStore s ws us at width → StaysTo16 ws us
frame_stays s ws us at width h = stays_at (is_aligned at width) (is_tracked at) ws us (cell_at at) (stored_word (at % 8) width (stored_operand_word s ws)) (cell_high at) h

store_stays : (s : bpf_insn) (ws us : List Word) (word : Word) → StoreEffect s ws us word → StaysTo16 ws us
store_stays s ws us (Number n) h = stays_same ws us h
store_stays s ws us (MapAddress n j) h = stays_same ws us h
store_stays s ws us Address h = stays_same ws us h
store_stays s ws us (ContextAddress j) h = stays_same ws us h
store_stays s ws us (Frame j) h = frame_stays s ws us (position j (cast_unsigned w64 s.off)) (width_of (size_of s.code)) h
store_stays s ws us Foreign h = h
store_stays s ws us (Part n j l) h = stays_same ws us h
store_stays s ws us Other h = stays_same ws us h

store_same : (s : bpf_insn) (ws us : List Word) (word : Word) → is_plain_word word ≡ true → StoreEffect s ws us word → us ≡ ws
store_same s ws us (Number n) e h = h
store_same s ws us (MapAddress n j) e h = h
store_same s ws us Address e h = h
store_same s ws us (ContextAddress j) e h = h
store_same s ws us (Frame j) e h = absurd (cc)
store_same s ws us Foreign e h = absurd (cc)
store_same s ws us (Part n j l) e h = h
store_same s ws us Other e h = h

plain_store : (v : Verifier) (s : bpf_insn) (k : Known) (ws us : List Word) (x : Value) (word : Word) → is_plain x ≡ true → AreDescribed k ws → Describes x word → StoreEffect s ws us word → AreDescribed (after_store v s k x) us
plain_store v s k ws us x word e d t h =
    subst (λ (j : Known). AreDescribed j us) (sym (store_plain v s k x e))
    (subst (λ (xs : List Word). AreDescribed k xs) (sym (store_same s ws us word (plain_described x word e t) h)) d)

store_described : (v : Verifier) (s : bpf_insn) (k : Known) (ws us : List Word) (x : Value) (word : Word) → AreDescribed k ws → Describes x word → StoreEffect s ws us word → AreDescribed (after_store v s k x) us
unfolding after_store
store_described v s k ws us value.Unknown word d t h = forgotten_described k ws us d (store_stays s ws us word h)
store_described v s k ws us value.Plain word d t h = plain_store v s k ws us value.Plain word refl d t h
store_described v s k ws us (value.Number n) word d t h = plain_store v s k ws us (value.Number n) word refl d t h
store_described v s k ws us value.Address word d t h = plain_store v s k ws us value.Address word refl d t h
store_described v s k ws us (value.Map n j) word d t h = plain_store v s k ws us (value.Map n j) word refl d t h
store_described v s k ws us (value.Context j) word d t h = plain_store v s k ws us (value.Context j) word refl d t h
store_described v s k ws us (value.Frame j) word d t h = frame_store_described v s k ws us (position j (cast_unsigned w64 s.off)) (width_of (size_of s.code)) d (subst (λ (x : Word). StoreEffect s ws us x) t h)
store_described v s k ws us (value.Part n j l) word d t h = plain_store v s k ws us (value.Part n j l) word refl d t h

-- A call, a load from a packet, and an atomic operation.

pub result_described : (v : Value) (k : Known) (ws us : List Word) → AreDescribed k ws → drop 6 us ≡ drop 6 ws → all_plain_words (take 5 (drop 1 us)) ≡ true → length us ≡ 32 → Describes v (word_at us 0) → AreDescribed (after_result v k) us
result_described v k ws [] d e p l h = absurd (omega arith)
result_described v k ws (u ∷ us) d e p l h =
    (h, plain_front 5 (drop 6 k) us p (omega (arith, l)) (subst (λ (xs : List Word). AreDescribed (drop 6 k) xs) (sym e) (described_drop k ws 6 d)))

plain_if_up : (b c : Bool) (w : Word) → (b ≡ true → c ≡ true) → Permits (plain_answer c) w → Describes (plain_if b) w
plain_if_up true c w f h = subst (λ (v : Bool). Permits (plain_answer v) w) (f refl) h
plain_if_up false c w f h = tt

pub frame_after_call : (k : Known) (ws us : List Word) → AreDescribed k ws → (c : AfterCall ws us) → AreDescribed (with_frame k) c.written
frame_after_call k ws us d c = written_described (keeps_frame k) (keeps_frame_words ws) k ws c.written (keeps_described k ws d) d c.writes

call_described : (s : bpf_insn) (k : Known) (ws us : List Word) → AreDescribed k ws → length ws ≡ 32 → CallEffect s ws us → AreDescribed (after_call s k) us
call_described s k ws us d l h =
    result_described (call_result s k) (with_frame k) h.stays.written us (frame_after_call k ws us d h.stays) h.stays.saved h.stays.others (h.stays.size ∙ l)
    (plain_if_up _ _ (word_at us 0) (or_and (eqb (src_reg_of s) 0) (eqb (src_reg_of s) 2) (keeps_frame k) (keeps_frame_words ws) (keeps_described k ws d)) h.given)

packet_size : (us : List Word) → length us ≡ 32 → all_plain_words (take 6 us) ≡ true → (is_plain_word (word_at us 0) ≡ true) × (all_plain_words (take 5 (drop 1 us)) ≡ true)
packet_size [] l e = absurd (omega arith)
packet_size (u ∷ us) l e = (and_left (is_plain_word u) (all_plain_words (take 5 us)) e, and_right (is_plain_word u) (all_plain_words (take 5 us)) e)

packet_effect_described : (k : Known) (ws us : List Word) → AreDescribed k ws → length ws ≡ 32 → PacketEffect ws us → AreDescribed (after_result value.Plain k) us
packet_effect_described k ws us d l h =
    let p = packet_size us (h.size ∙ l) h.others in
    result_described value.Plain k ws us d h.saved p.1 (h.size ∙ l) p.0

three_described : (s : bpf_insn) (v : Value) (k : Known) (ws : List Word) (x y z : Word) → AreDescribed k ws → Describes v x → Describes v y → Describes v z → AreDescribed (with_three s v k) (set (set (set ws (dst_reg_of s) x) (src_reg_of s) y) 0 z)
three_described s v k ws x y z d e f g =
    described_set _ _ 0 v z (described_set _ _ (src_reg_of s) v y (described_set k ws (dst_reg_of s) v x d e) f) g

atomic_plain : (s : bpf_insn) (k : Known) (ws : List Word) → AreDescribed k ws → is_plain_atomic s k ≡ true → is_plain_atomic_word s ws ≡ true
atomic_plain s k ws d e =
    let rest = and_right (is_plain (value_in k (dst_reg_of s))) (is_plain (value_in k (src_reg_of s)) && is_plain (value_in k 0)) e in
    and_both _ _ (plain_described _ _ (and_left (is_plain (value_in k (dst_reg_of s))) (is_plain (value_in k (src_reg_of s)) && is_plain (value_in k 0)) e) (described_at k ws (dst_reg_of s) d))
    (and_both _ _ (plain_described _ _ (and_left (is_plain (value_in k (src_reg_of s))) (is_plain (value_in k 0)) rest) (described_at k ws (src_reg_of s) d))
    (plain_described _ _ (and_right (is_plain (value_in k (src_reg_of s))) (is_plain (value_in k 0)) rest) (described_at k ws 0 d)))

atomic_at : (b c : Bool) (s : bpf_insn) (k : Known) (ws other : List Word) (x y z : Word) → (b ≡ true → c ≡ true) → AreDescribed k ws → MayWrite c ws other → Permits (plain_answer c) x → Permits (plain_answer c) y → Permits (plain_answer c) z → AreDescribed (cond b (with_three s value.Plain k) (with_three s value.Unknown (forgotten k))) (set (set (set other (dst_reg_of s) x) (src_reg_of s) y) 0 z)
atomic_at true c s k ws other x y z f d m e g h =
    three_described s value.Plain k other x y z (written_described true c k ws other f d m) (plain_if_up true c x f e) (plain_if_up true c y f g) (plain_if_up true c z f h)
atomic_at false c s k ws other x y z f d m e g h =
    three_described s value.Unknown (forgotten k) other x y z (forgotten_described k ws other d m.stays) tt tt tt

atomic_described : (s : bpf_insn) (k : Known) (ws us : List Word) → AreDescribed k ws → AtomicEffect s ws us → AreDescribed (after_atomic s k) us
atomic_described s k ws us d h =
    subst (λ (xs : List Word). AreDescribed (after_atomic s k) xs) (sym h.is)
    (atomic_at (is_plain_atomic s k) (is_plain_atomic_word s ws) s k ws h.written h.x h.y h.z (atomic_plain s k ws d) d h.writes h.first h.second h.third)

pub effect_described : (code : Code) (s : bpf_insn) (next : Option bpf_insn) (k : Known) (ws us : List Word) (c : Kind) → AreDescribed k ws → length ws ≡ 32 → Effect code s next ws us c → AreDescribed (after_kind code s next k c) us
effect_described code s next k ws us kind.Call d l h = call_described s k ws us d l h
effect_described code s next k ws us kind.Packet d l h = packet_effect_described k ws us d l h
effect_described code s next k ws us kind.Wide d l h = written k ws us (dst_reg_of s) _ _ d (wide_describes code s next) h
effect_described code s next k ws us kind.Arithmetic d l h =
    written k ws us (dst_reg_of s) _ _ d
    (λ w p. arithmetic_describes code.verifier s _ _ _ _ w (described_at k ws (dst_reg_of s) d) (operand_described s k ws d) p) h
effect_described code s next k ws us kind.Load d l h =
    written k ws us (dst_reg_of s) _ _ d (λ w p. loaded_describes code s k ws _ _ w d (described_at k ws (src_reg_of s) d) p) h
effect_described code s next k ws us kind.OtherLoad d l h = written k ws us (dst_reg_of s) value.Plain AnyPlain d (λ w p. p) h
effect_described code s next k ws us kind.Atomic d l h = atomic_described s k ws us d h
effect_described code s next k ws us kind.Store d l h = store_described code.verifier s k ws us _ _ d (described_at k ws (dst_reg_of s) d) h
effect_described code s next k ws us kind.NoWrite d l h = subst (λ (xs : List Word). AreDescribed k xs) (sym h) d

written_size : (ws us : List Word) (r : ℕ) (o : Answer) → Writes ws us r o → length us ≡ length ws
written_size ws us r o h = ap length h.2 ∙ length-set ws r h.0

pub effect_size : (code : Code) (s : bpf_insn) (next : Option bpf_insn) (ws us : List Word) (c : Kind) → Effect code s next ws us c → length us ≡ length ws
effect_size code s next ws us kind.Call h = h.stays.size
effect_size code s next ws us kind.Packet h = h.size
effect_size code s next ws us kind.Wide h = written_size ws us _ _ h
effect_size code s next ws us kind.Arithmetic h = written_size ws us _ _ h
effect_size code s next ws us kind.Load h = written_size ws us _ _ h
effect_size code s next ws us kind.OtherLoad h = written_size ws us (dst_reg_of s) AnyPlain h
effect_size code s next ws us kind.Atomic h =
    ap length h.is ∙ (length-set _ 0 h.z ∙ (length-set _ (src_reg_of s) h.y ∙ (length-set h.written (dst_reg_of s) h.x ∙ h.writes.stays.size)))
effect_size code s next ws us kind.Store h = (store_stays s ws us (word_at ws (dst_reg_of s)) h).size
effect_size code s next ws us kind.NoWrite h = ap length h

-- The arguments of a call.

outside_word_plain : (w : Word) → is_plain_word w ≡ true → is_plain_word (outside_word w) ≡ true
outside_word_plain (Number n) e = refl
outside_word_plain (MapAddress n j) e = refl
outside_word_plain Address e = refl
outside_word_plain (ContextAddress j) e = refl
outside_word_plain (Frame j) e = absurd (cc)
outside_word_plain Foreign e = absurd (cc)
outside_word_plain (Part n j l) e = refl
outside_word_plain Other e = refl

outside_described : (v : Value) (w : Word) → Describes v w → Describes (outside v) (outside_word w)
outside_described value.Unknown w d = tt
outside_described value.Plain w d = outside_word_plain w d
outside_described (value.Number n) w d = ap outside_word d
outside_described value.Address w d = ap outside_word d
outside_described (value.Map n j) w d = ap outside_word d
outside_described (value.Context j) w d = ap outside_word d
outside_described (value.Frame j) w d = tt
outside_described (value.Part n j l) w d = ap outside_word d

outside_all : (k : Known) (ws : List Word) → AreDescribed k ws → AreDescribed (map outside k) (map outside_word ws)
outside_all [] [] d = tt
outside_all [] (w ∷ ws) d = absurd d
outside_all (v ∷ vs) [] d = absurd d
outside_all (v ∷ vs) (w ∷ ws) d = (outside_described v w d.0, outside_all vs ws d.1)

plain_all : (n : ℕ) (us : List Word) → all_plain_words us ≡ true → length us ≡ n → AreDescribed (replicate n value.Plain) us
plain_all zero [] e l = tt
plain_all zero (u ∷ us) e l = absurd (omega arith)
plain_all (suc n) [] e l = absurd (omega arith)
plain_all (suc n) (u ∷ us) e l =
    (and_left (is_plain_word u) (all_plain_words us) e, plain_all n us (and_right (is_plain_word u) (all_plain_words us) e) (omega arith))

-- The start of a function.
pub entry_described : (args : Known) (us : List Word) → Entered us → AreDescribed args (take 5 (drop 1 us)) → AreDescribed (entry args) us
entry_described args [] e d = absurd (let l = e.size in omega (arith, l))
entry_described args (u0 ∷ []) e d = absurd (let l = e.size in omega (arith, l))
entry_described args (u0 ∷ u1 ∷ []) e d = absurd (let l = e.size in omega (arith, l))
entry_described args (u0 ∷ u1 ∷ u2 ∷ []) e d = absurd (let l = e.size in omega (arith, l))
entry_described args (u0 ∷ u1 ∷ u2 ∷ u3 ∷ []) e d = absurd (let l = e.size in omega (arith, l))
entry_described args (u0 ∷ u1 ∷ u2 ∷ u3 ∷ u4 ∷ []) e d = absurd (let l = e.size in omega (arith, l))
entry_described args (u0 ∷ u1 ∷ u2 ∷ u3 ∷ u4 ∷ u5 ∷ []) e d = absurd (let l = e.size in omega (arith, l))
entry_described args (u0 ∷ u1 ∷ u2 ∷ u3 ∷ u4 ∷ u5 ∷ u6 ∷ []) e d = absurd (let l = e.size in omega (arith, l))
entry_described args (u0 ∷ u1 ∷ u2 ∷ u3 ∷ u4 ∷ u5 ∷ u6 ∷ u7 ∷ []) e d = absurd (let l = e.size in omega (arith, l))
entry_described args (u0 ∷ u1 ∷ u2 ∷ u3 ∷ u4 ∷ u5 ∷ u6 ∷ u7 ∷ u8 ∷ []) e d = absurd (let l = e.size in omega (arith, l))
entry_described args (u0 ∷ u1 ∷ u2 ∷ u3 ∷ u4 ∷ u5 ∷ u6 ∷ u7 ∷ u8 ∷ u9 ∷ []) e d = absurd (let l = e.size in omega (arith, l))
entry_described args (u0 ∷ u1 ∷ u2 ∷ u3 ∷ u4 ∷ u5 ∷ u6 ∷ u7 ∷ u8 ∷ u9 ∷ u10 ∷ us) e d =
    let after_6 = and_right (is_plain_word u6) (all_plain_words (u7 ∷ u8 ∷ u9 ∷ [])) e.saved in
    let after_7 = and_right (is_plain_word u7) (all_plain_words (u8 ∷ u9 ∷ [])) after_6 in
    let after_8 = and_right (is_plain_word u8) (all_plain_words (u9 ∷ [])) after_7 in
    let size = e.size in (
      e.result,
      described_split 5 args (replicate 4 value.Plain ++ value.Frame 0 ∷ replicate 21 value.Plain) (u1 ∷ u2 ∷ u3 ∷ u4 ∷ u5 ∷ u6 ∷ u7 ∷ u8 ∷ u9 ∷ u10 ∷ us) d (
        and_left (is_plain_word u6) (all_plain_words (u7 ∷ u8 ∷ u9 ∷ [])) e.saved,
        (
          and_left (is_plain_word u7) (all_plain_words (u8 ∷ u9 ∷ [])) after_6,
          (
            and_left (is_plain_word u8) (all_plain_words (u9 ∷ [])) after_7,
            (
              and_left (is_plain_word u9) true after_8,
              (e.pointer, plain_all 21 us e.frame (omega (arith, size))),
            ),
          ),
        ),
      ),
    )

five : (us : List Word) → length us ≡ 32 → length (take 5 (drop 1 us)) ≡ 5
five [] l = absurd (omega arith)
five (u0 ∷ []) l = absurd (omega arith)
five (u0 ∷ u1 ∷ []) l = absurd (omega arith)
five (u0 ∷ u1 ∷ u2 ∷ []) l = absurd (omega arith)
five (u0 ∷ u1 ∷ u2 ∷ u3 ∷ []) l = absurd (omega arith)
five (u0 ∷ u1 ∷ u2 ∷ u3 ∷ u4 ∷ []) l = absurd (omega arith)
five (u0 ∷ u1 ∷ u2 ∷ u3 ∷ u4 ∷ u5 ∷ us) l = refl

start_arguments : (us : List Word) → length us ≡ 32 → word_at us 1 ≡ ContextAddress 0 → all_plain_words (take 4 (drop 2 us)) ≡ true → AreDescribed (value.Context 0 ∷ replicate 4 value.Plain) (take 5 (drop 1 us))
start_arguments [] l c p = absurd (omega arith)
start_arguments (u0 ∷ []) l c p = absurd (omega arith)
start_arguments (u0 ∷ u1 ∷ []) l c p = absurd (omega arith)
start_arguments (u0 ∷ u1 ∷ u2 ∷ []) l c p = absurd (omega arith)
start_arguments (u0 ∷ u1 ∷ u2 ∷ u3 ∷ []) l c p = absurd (omega arith)
start_arguments (u0 ∷ u1 ∷ u2 ∷ u3 ∷ u4 ∷ []) l c p = absurd (omega arith)
start_arguments (u0 ∷ u1 ∷ u2 ∷ u3 ∷ u4 ∷ u5 ∷ us) l c p = (c, plain_all 4 (u2 ∷ u3 ∷ u4 ∷ u5 ∷ []) p refl)

pub any_entry_described : (us : List Word) → Entered us → AreDescribed any_entry us
any_entry_described us e = entry_described (replicate 5 value.Unknown) us e (described_nothing 5 (take 5 (drop 1 us)) (five us e.size))

pub start_described : (us : List Word) → Entered us → word_at us 1 ≡ ContextAddress 0 → all_plain_words (take 4 (drop 2 us)) ≡ true → AreDescribed at_start us
start_described us e c p = entry_described (value.Context 0 ∷ replicate 4 value.Plain) us e (start_arguments us e.size c p)

pub passed_described : (k : Known) (ws us : List Word) → AreDescribed k ws → Entered us → take 5 (drop 1 us) ≡ map outside_word (take 5 (drop 1 ws)) → AreDescribed (passed k) us
passed_described k ws us d e f =
    entry_described (map outside (take 5 (drop 1 k))) us e
    (subst (λ (xs : List Word). AreDescribed (map outside (take 5 (drop 1 k))) xs) (sym f) (outside_all _ _ (described_take (drop 1 k) (drop 1 ws) 5 (described_drop k ws 1 d))))

-- The result of a function.

packet_described : (c : Kind) (w : Word) → EndsWith (packet_word c) w → (v : Value) × (packet_result c ≡ Some v) × Describes v w
packet_described kind.Call w h = absurd h
packet_described kind.Packet w h = (value.Number 0, refl, h)
packet_described kind.Wide w h = absurd h
packet_described kind.Arithmetic w h = absurd h
packet_described kind.Load w h = absurd h
packet_described kind.OtherLoad w h = absurd h
packet_described kind.Atomic w h = absurd h
packet_described kind.Store w h = absurd h
packet_described kind.NoWrite w h = absurd h

ends_cond : (b : Bool) (u : Answer) (q : Option Answer) (x : Value) (y : Option Value) (w : Word) → (Permits u w → Describes x w) → (EndsWith q w → (v : Value) × (y ≡ Some v) × Describes v w) → EndsWith (cond b (Some u) q) w → (v : Value) × (cond b (Some x) y ≡ Some v) × Describes v w
ends_cond true u q x y w f g h = (x, refl, f h)
ends_cond false u q x y w f g h = g h

pub end_described : (s : bpf_insn) (k : Known) (ws : List Word) (w : Word) → AreDescribed k ws → EndsWith (result_word s ws) w → (v : Value) × (result_value s k ≡ Some v) × Describes v w
end_described s k ws w d h =
    ends_cond (eqb s.code 149) _ _ _ _ w (λ p. subst (λ (u : Word). Describes (outside (value_in k 0)) u) (sym p) (outside_described (value_in k 0) (word_at ws 0) (described_at k ws 0 d)))
    (ends_cond (is_tail_call s) _ _ _ _ w (λ p. tt) (packet_described (kind_of s.code) w)) h

-- A jump that known values decide is decided so by the words.

abbrev pub IsDecided : Option Bool → Option Bool → Type 0
IsDecided None e = Unit {0}
IsDecided (Some d) e = e ≡ Some d

decided_same : (d : Option Bool) → IsDecided d d
decided_same None = tt
decided_same (Some d) = refl

decided_if : (b : Bool) (d : Option Bool) → IsDecided (cond b d None) d
decided_if true d = decided_same d
decided_if false d = tt

decided_flag : (flag b : Bool) (d : Option Bool) → IsDecided (cond (flag && b) d None) (cond b d None)
decided_flag true b d = decided_same (cond b d None)
decided_flag false b d = tt

both_decided : (code : Code) (n : ℕ) (d : Option Bool) (x y wx wy : Word) → wx ≡ x → wy ≡ y → IsDecided d (decided_words code n x y) → IsDecided d (decided_words code n wx wy)
both_decided code n d x y wx wy p q h =
    subst (λ (u : Word). IsDecided d (decided_words code n wx u)) (sym q) (subst (λ (u : Word). IsDecided d (decided_words code n u y)) (sym p) h)

pub values_decided : (code : Code) (o : ℕ) (x y : Value) (wx wy : Word) → Describes x wx → Describes y wy → IsDecided (decided_values code o x y) (decided_words code o wx wy)
values_decided code o value.Unknown y wx wy d e = tt
values_decided code o value.Plain y wx wy d e = tt
values_decided code o (value.Number m) value.Unknown wx wy d e = tt
values_decided code o (value.Number m) value.Plain wx wy d e = tt
values_decided code o (value.Number m) (value.Number n) wx wy d e = both_decided code o _ (Number m) (Number n) wx wy d e (decided_if (decides code.verifier o m n) (outcome o m n))
values_decided code o (value.Number m) value.Address wx wy d e = tt
values_decided code o (value.Number m) (value.Map n j) wx wy d e = tt
values_decided code o (value.Number m) (value.Context j) wx wy d e = tt
values_decided code o (value.Number m) (value.Frame j) wx wy d e = tt
values_decided code o (value.Number m) (value.Part n j l) wx wy d e = tt
values_decided code o value.Address value.Unknown wx wy d e = tt
values_decided code o value.Address value.Plain wx wy d e = tt
values_decided code o value.Address (value.Number n) wx wy d e = both_decided code o _ Address (Number n) wx wy d e (decided_same (with_address o n))
values_decided code o value.Address value.Address wx wy d e = tt
values_decided code o value.Address (value.Map n j) wx wy d e = tt
values_decided code o value.Address (value.Context j) wx wy d e = tt
values_decided code o value.Address (value.Frame j) wx wy d e = tt
values_decided code o value.Address (value.Part n j l) wx wy d e = tt
values_decided code o (value.Map m i) value.Unknown wx wy d e = tt
values_decided code o (value.Map m i) value.Plain wx wy d e = tt
values_decided code o (value.Map m i) (value.Number n) wx wy d e =
    both_decided code o _ (MapAddress m i) (Number n) wx wy d e (decided_flag code.verifier.map_values (nat_lt i (length (bytes_in code.maps m))) (with_address o n))
values_decided code o (value.Map m i) value.Address wx wy d e = tt
values_decided code o (value.Map m i) (value.Map n j) wx wy d e = tt
values_decided code o (value.Map m i) (value.Context j) wx wy d e = tt
values_decided code o (value.Map m i) (value.Frame j) wx wy d e = tt
values_decided code o (value.Map m i) (value.Part n j l) wx wy d e = tt
values_decided code o (value.Context i) y wx wy d e = tt
values_decided code o (value.Frame i) y wx wy d e = tt
values_decided code o (value.Part m i k) y wx wy d e = tt

pub allowed_too : (d e : Option Bool) (taken : Bool) → IsDecided d e → allows e taken ≡ true → allows d taken ≡ true
allowed_too None e taken k h = refl
allowed_too (Some d) e taken k h = subst (λ (o : Option Bool). allows o taken ≡ true) k h
