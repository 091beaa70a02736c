-- A machine that runs a program's slots, with whatever answers of helpers and of memory (RFC 9669).
-- It takes as known the results of the operations that `result_of` names (4.1), how jumps are decided
-- (4.3), what a load of two immediates gives (5.4), and the bytes of frozen maps. All else may be
-- anything: what a helper, an atomic operation and any other load leave, and the result of any other
-- operation, such as a division, a negation or a byte swap. A function
-- that is called runs with the registers r1 to r5 of its caller. When it ends, its caller goes on
-- behind the call with the result in r0, anything in r1 to r5, and r6 to r9 and the frame pointer as
-- before. A function that a helper calls runs apart from its caller.
--
-- Each function has a frame, of which the machine has the last 128 bytes, eight by eight, by the last
-- write into each eight of them. Words that aren't addresses of a frame never become one: a kernel takes
-- no program that uses one otherwise, or that keeps it elsewhere than in registers and frames.
use Rattle.std.specs.Prelude.{◌≡◌, ◌≢◌, ◌⊎◌, ℕ, ◌+◌, ◌-◌, ◌*◌, ◌/◌, ◌%◌, ◌^◌, ◌==◌, ◌&&◌, ◌||◌, Bool, true, false, not, nat_le, nat_lt, if◌then◌else◌, List, [], ◌∷◌, length, map, Option, Some, None, slice_get, slice_set, unwrap_or, take, drop, ℤ, pos, ◌+ℤ◌}
use Rattle.std.specs.Int.{w32, w64, cast_unsigned}
use Rattle.ebpf_items.specs.declared.instruction.bpf_insn.{bpf_insn}
use Rattle.ebpf_items.specs.Instruction.{dst_reg_of, src_reg_of, is_pseudo_call}
use Rattle.plan_values.specs.Arithmetic.{number_result}
use Rattle.plan_values.specs.Comparisons.{outcome}
use Rattle.plan_values.specs.Cells.{cell_at, is_aligned, is_tracked, position}
use Rattle.plan_values.specs.Effects.{adds, copies, is_frozen, kind_of, moves, stores_immediate, subtracts}
use Rattle.plan_registers.specs.Flow.{allows, distance, is_tail_call, with_address}
use Rattle.plan_values.specs.Programs.{Code, bytes_in, is_callback, target}
use Rattle.plan_values.specs.Sizes.{number_in, size_of, width_of}
use Rattle.plan_values.specs.Values.{sum_64}
use Rattle.plan_values.specs.declared.effects.Kind.{Kind}
use Rattle.plan_values.specs.declared.effects.Kind.TheVariants as kind

-- What a register holds, or eight bytes of the frame: a number of 64 bits, the address of a map's value
-- plus an offset, another address that isn't 0, the address of the program's context plus an offset, the
-- address of the end of the function's own frame plus an offset, an address through which what runs may
-- write to a frame, or anything else. Eight bytes may be those whose last write put the low bytes of a
-- number into some of them, from one of them on.
pub data Word : Type 0 where
  Number : ℕ → Word
  MapAddress : ℕ → ℕ → Word
  Address : Word
  ContextAddress : ℕ → Word
  Frame : ℕ → Word
  Foreign : Word
  Part : ℕ → ℕ → ℕ → Word
  Other : Word

abbrev pub is_plain_word : Word → Bool
is_plain_word (Frame offset) = false
is_plain_word Foreign = false
is_plain_word _ = true

-- What a step leaves: any word, any that is no address of a frame, or one word.
pub data Answer : Type 0 where
  Anything : Answer
  AnyPlain : Answer
  Exactly : Word → Answer

-- A function that waits at its call: the slot of the call, the slot at which the called function
-- begins, and the registers.
pub record Waiting : Type 0 where
  pub slot : ℕ
  pub callee : ℤ
  pub registers : List Word

-- The registers of the function that runs, and the last 128 bytes of its frame behind them, the slot that is next, and the functions that wait, the
-- latest call first.
pub record State : Type 0 where
  pub registers : List Word
  pub slot : ℤ
  pub waiting : List Waiting

abbrev pub word_at : List Word → ℕ → Word
word_at words register = unwrap_or (slice_get words register) Other

abbrev pub Permits : Answer → Word → Type 0
Permits Anything word = Unit {0}
Permits AnyPlain word = is_plain_word word ≡ true
Permits (Exactly known) word = word ≡ known

abbrev pub plain_answer : Bool → Answer
plain_answer is = if is then AnyPlain else Anything

abbrev pub operand_word : bpf_insn → List Word → Word
operand_word s words =
    if s.code / 8 % 2 == 1 then word_at words (src_reg_of s) else Number (cast_unsigned w64 s.imm)

abbrev pub number_word : Option ℕ → Answer
number_word None = AnyPlain
number_word (Some n) = Exactly (Number n)

-- The word at an offset, moved by an addition or a subtraction of 64 bits.
abbrev pub moved_word : bpf_insn → (ℕ → Word) → ℕ → ℕ → Answer
moved_word s at offset n =
    if adds s then Exactly (at (sum_64 offset n))
    else
    (if subtracts s then Exactly (at (sum_64 offset ((2 ^ 64 - n) % 2 ^ 64)))
    else plain_answer (is_plain_word (at offset)))

-- The same of a word that is the second operand of an addition.
abbrev pub moved_second_word : bpf_insn → (ℕ → Word) → ℕ → ℕ → Answer
moved_second_word s at offset n =
    if s.code == 0x0f then Exactly (at (sum_64 offset n))
    else plain_answer (is_plain_word (at offset))

abbrev pub copied_word : bpf_insn → Word → Answer
copied_word s (Number n) = number_word (number_result s 0 n)
copied_word s word = plain_answer (is_plain_word word)

abbrev pub paired_word : bpf_insn → Word → Word → Answer
paired_word s (Number m) (Number n) = number_word (number_result s m n)
paired_word s (Number m) (MapAddress map offset) =
    moved_second_word s (λ o. MapAddress map o) offset m
paired_word s (Number m) (ContextAddress offset) =
    moved_second_word s (λ o. ContextAddress o) offset m
paired_word s (Number m) (Frame offset) = moved_second_word s (λ o. Frame o) offset m
paired_word s (MapAddress map offset) (Number n) = moved_word s (λ o. MapAddress map o) offset n
paired_word s (ContextAddress offset) (Number n) = moved_word s (λ o. ContextAddress o) offset n
paired_word s (Frame offset) (Number n) = moved_word s (λ o. Frame o) offset n
paired_word s x y = plain_answer (is_plain_word x && is_plain_word y)

-- What arithmetic leaves in its destination register: MOV of 64 bits copies any word, an addition
-- or a subtraction of 64 bits moves an address, and numbers give a number. Without the address of a
-- frame there comes none.
abbrev pub arithmetic_word : bpf_insn → Word → Word → Answer
arithmetic_word s x y =
    if copies s then Exactly y else (if moves s then copied_word s y else paired_word s x y)

-- What the load of two immediates leaves: their number, or an address that the loader puts there. A
-- function of the program may write to any frame whose address it gets.
abbrev pub wide_pair_word : Code → ℕ → ℕ → ℕ → Answer
wide_pair_word code source low high =
    if source == 0 then Exactly (Number (low + 2 ^ 32 * high))
    else (if source == 2
    then (if is_frozen code low then Exactly (MapAddress low high) else Exactly Address)
    else (if source == 3 && code.verifier.functions then Exactly Address
    else plain_answer (not (source == 4))))

abbrev pub wide_word : Code → bpf_insn → Option bpf_insn → Answer
wide_word code s None = Anything
wide_word code s (Some next) =
    wide_pair_word code (src_reg_of s) (cast_unsigned w32 s.imm) (cast_unsigned w32 next.imm)

-- What the bytes from `first` on give of which the last write has put a number into `size` bytes from
-- `start` on.
abbrev pub read_number_word : ℕ → ℕ → ℕ → ℕ → ℕ → Answer
read_number_word number start size first width =
    if start == first && size == width then Exactly (Number (number % 2 ^ (8 * width)))
    else
    (if number == 0 && (nat_le start first && nat_le (first + width) (start + size))
    then Exactly (Number 0)
    else AnyPlain)

-- What a load of `width` bytes from byte `first` of eight bytes on gives.
abbrev pub read_word : Word → ℕ → ℕ → Answer
read_word (Number number) first width = read_number_word number 0 8 first width
read_word (Part number start size) first width = read_number_word number start size first width
read_word word first width = if width == 8 then Exactly word else AnyPlain

abbrev pub frame_word : List Word → ℕ → ℕ → Answer
frame_word words at width =
    if is_tracked at && is_aligned at width
    then read_word (word_at words (cell_at at)) (at % 8) width
    else plain_answer (not (width == 8))

-- What a load gives: the bytes of a frozen map, those of the frame, or anything. Eight bytes of a frame
-- may be an address of a frame.
abbrev pub loaded_word : Code → bpf_insn → List Word → Word → Answer
loaded_word code s words (MapAddress map offset) =
    number_word (number_in (size_of s.code) (bytes_in code.maps map) (sum_64 offset (cast_unsigned w64 s.off)))
loaded_word code s words (Frame offset) =
    frame_word words (position offset (cast_unsigned w64 s.off)) (width_of (size_of s.code))
loaded_word code s words word = plain_answer (is_plain_word word)

-- A register is written.
abbrev pub Writes : List Word → List Word → ℕ → Answer → Type 0
Writes before after register known =
    (word : Word) × Permits known word × (after ≡ slice_set before register word)

-- The registers stay, and the frame may be written.
pub record StaysTo16 (before after : List Word) : Type 0 where
  pub size : length after ≡ length before
  pub registers : take 16 after ≡ take 16 before

abbrev pub all_plain_words : List Word → Bool
all_plain_words [] = true
all_plain_words (word ∷ words) = is_plain_word word && all_plain_words words

-- Whether no argument of a call is an address of the frame.
abbrev pub keeps_frame_words : List Word → Bool
keeps_frame_words words = all_plain_words (take 5 (drop 1 words))

-- The registers stay, and the frame may be written, unless it is kept.
pub record MayWrite (kept : Bool) (before after : List Word) : Type 0 where
  pub stays : StaysTo16 before after
  pub same : kept ≡ true → after ≡ before

-- Behind a call the registers from 6 on are as before, and the frame is, if its address isn't an
-- argument. The registers 1 to 5 hold no address of a frame.
pub record AfterCall (before after : List Word) : Type 0 where
  pub written : List Word
  pub writes : MayWrite (keeps_frame_words before) before written
  pub size : length after ≡ length before
  pub saved : drop 6 after ≡ drop 6 written
  pub others : all_plain_words (take 5 (drop 1 after)) ≡ true

-- What a call of a helper (source 0) gives is no address of a frame, nor what a function of the kernel
-- (source 2) gives without one.
abbrev pub call_word : bpf_insn → List Word → Answer
call_word s words = plain_answer (src_reg_of s == 0 || (src_reg_of s == 2 && keeps_frame_words words))

pub record CallEffect (s : bpf_insn) (before after : List Word) : Type 0 where
  pub stays : AfterCall before after
  pub given : Permits (call_word s before) (word_at after 0)

-- The registers 0 to 5 hold no address of a frame after a load from a packet.
pub record PacketEffect (before after : List Word) : Type 0 where
  pub size : length after ≡ length before
  pub saved : drop 6 after ≡ drop 6 before
  pub others : all_plain_words (take 6 after) ≡ true

abbrev pub is_plain_atomic_word : bpf_insn → List Word → Bool
is_plain_atomic_word s words =
    is_plain_word (word_at words (dst_reg_of s))
    && (is_plain_word (word_at words (src_reg_of s)) && is_plain_word (word_at words 0))

-- An atomic operation writes its registers and register 0. If none of them is an address of a frame, it
-- leaves none, and the frame stays.
pub record AtomicEffect (s : bpf_insn) (before after : List Word) : Type 0 where
  pub x : Word
  pub y : Word
  pub z : Word
  pub written : List Word
  pub writes : MayWrite (is_plain_atomic_word s before) before written
  pub first : Permits (plain_answer (is_plain_atomic_word s before)) x
  pub second : Permits (plain_answer (is_plain_atomic_word s before)) y
  pub third : Permits (plain_answer (is_plain_atomic_word s before)) z
  pub is : after ≡ slice_set (slice_set (slice_set written (dst_reg_of s) x) (src_reg_of s) y) 0 z

abbrev pub stored_operand_word : bpf_insn → List Word → Word
stored_operand_word s words =
    if stores_immediate s then Number (cast_unsigned w64 s.imm) else word_at words (src_reg_of s)

-- What a store of `width` bytes from byte `first` on leaves of eight bytes.
abbrev pub stored_word : ℕ → ℕ → Word → Answer
stored_word first width (Number number) =
    if width == 8 then Exactly (Number number) else Exactly (Part number first width)
stored_word first width word = if width == 8 then Exactly word else AnyPlain

-- A store at a position of the frame, which is aligned or not, and kept track of or not. One that isn't
-- aligned may write anywhere.
abbrev pub StoreAt : Bool → Bool → List Word → List Word → ℕ → Answer → Type 0
StoreAt false is_tracked before after place known = StaysTo16 before after
StoreAt true false before after place known = after ≡ before
StoreAt true true before after place known = Writes before after place known

abbrev pub FrameStore : bpf_insn → List Word → List Word → ℕ → ℕ → Type 0
FrameStore s before after at width =
    StoreAt
    (is_aligned at width)
    (is_tracked at)
    before
    after
    (cell_at at)
    (stored_word (at % 8) width (stored_operand_word s before))

-- A store to an address. Through one that isn't of its own frame it may write to the frame.
abbrev pub StoreEffect : bpf_insn → List Word → List Word → Word → Type 0
StoreEffect s before after (Frame offset) =
    FrameStore
    s
    before
    after
    (position offset (cast_unsigned w64 s.off))
    (width_of (size_of s.code))
StoreEffect s before after Foreign = StaysTo16 before after
StoreEffect s before after word = after ≡ before

-- The registers before and after an instruction.
abbrev pub Effect : Code → bpf_insn → Option bpf_insn → List Word → List Word → Kind → Type 0
Effect code s next before after kind.Call = CallEffect s before after
Effect code s next before after kind.Packet = PacketEffect before after
Effect code s next before after kind.Wide = Writes before after (dst_reg_of s) (wide_word code s next)
Effect code s next before after kind.Arithmetic =
    Writes before after (dst_reg_of s)
    (arithmetic_word s (word_at before (dst_reg_of s)) (operand_word s before))
Effect code s next before after kind.Load =
    Writes before after (dst_reg_of s) (loaded_word code s before (word_at before (src_reg_of s)))
Effect code s next before after kind.OtherLoad = Writes before after (dst_reg_of s) AnyPlain
Effect code s next before after kind.Atomic = AtomicEffect s before after
Effect code s next before after kind.Store =
    StoreEffect s before after (word_at before (dst_reg_of s))
Effect code s next before after kind.NoWrite = after ≡ before

-- Whether an offset lies in the value of a map, so that the address there isn't 0.
abbrev pub in_value : Code → ℕ → ℕ → Bool
in_value code map offset = nat_lt offset (length (bytes_in code.maps map))

abbrev pub decided_words : Code → ℕ → Word → Word → Option Bool
decided_words code operation (Number x) (Number y) = outcome operation x y
decided_words code operation Address (Number n) = with_address operation n
decided_words code operation (Number n) Address = with_address operation n
decided_words code operation (MapAddress map offset) (Number n) =
    if in_value code map offset then with_address operation n else None
decided_words code operation (Number n) (MapAddress map offset) =
    if in_value code map offset then with_address operation n else None
decided_words code operation _ _ = None

-- How a conditional jump is decided, where its operands decide it.
abbrev pub decision : Code → bpf_insn → List Word → Option Bool
decision code s words = decided_words code s.code (word_at words (dst_reg_of s)) (operand_word s words)

-- A slot is run at which control stays in its function. Where its operands don't decide a jump, it may
-- be taken or not.
pub record Runs (code : Code) (n : ℕ) (s : bpf_insn) (a b : State) : Type 0 where
  pub taken : Bool
  pub stays : s.code ≢ 0x95
  pub no_call : is_pseudo_call s ≡ false
  pub allowed : allows (decision code s a.registers) taken ≡ true
  pub to : b.slot ≡ pos n +ℤ distance s taken
  pub effect : Effect code s (slice_get code.slots (n + 1)) a.registers b.registers (kind_of s.code)
  pub waiting : b.waiting ≡ a.waiting

-- A word in another call's registers: the address of this frame is one of another frame there.
abbrev pub outside_word : Word → Word
outside_word (Frame offset) = Foreign
outside_word word = word

-- The registers at the start of a function: register 10 is the address of its frame's end, and none but
-- the arguments is another address of a frame.
pub record Entered (words : List Word) : Type 0 where
  pub size : length words ≡ 32
  pub result : is_plain_word (word_at words 0) ≡ true
  pub saved : all_plain_words (take 4 (drop 6 words)) ≡ true
  pub pointer : word_at words 10 ≡ Frame 0
  pub frame : all_plain_words (drop 11 words) ≡ true

-- A function of the program is called, with the arguments of the call.
pub record Calls (n : ℕ) (s : bpf_insn) (a b : State) : Type 0 where
  pub call : is_pseudo_call s ≡ true
  pub to : b.slot ≡ target s n
  pub entered : Entered b.registers
  pub arguments : take 5 (drop 1 b.registers) ≡ map outside_word (take 5 (drop 1 a.registers))
  pub waiting : b.waiting
      ≡ record { slot = n; callee = target s n; registers = a.registers } ∷ a.waiting

-- A function begins whose address is loaded for a helper to call.
pub record IsCalledBack (n : ℕ) (s : bpf_insn) (a b : State) : Type 0 where
  pub load : is_callback s ≡ true
  pub to : b.slot ≡ target s n
  pub entered : Entered b.registers
  pub waiting : b.waiting ≡ []

abbrev pub packet_word : Kind → Option Answer
packet_word kind.Packet = Some (Exactly (Number 0))
packet_word _ = None

-- Whether a function may end at a slot, and with which result: r0 at an exit (4.3), anything at a tail
-- call, where another program may return in its place, and 0 at a load from a packet (5.5).
abbrev pub result_word : bpf_insn → List Word → Option Answer
result_word s words =
    if s.code == 0x95 then Some (Exactly (outside_word (word_at words 0)))
    else (if is_tail_call s then Some Anything else packet_word (kind_of s.code))

abbrev pub EndsWith : Option Answer → Word → Type 0
EndsWith None result = ⊥
EndsWith (Some known) result = Permits known result

-- A function ends, and its caller goes on behind the call.
pub record Returns (s : bpf_insn) (a b : State) : Type 0 where
  pub call : Waiting
  pub others : List Waiting
  pub result : Word
  pub called : a.waiting ≡ call ∷ others
  pub ends : EndsWith (result_word s a.registers) result
  pub to : b.slot ≡ pos call.slot +ℤ pos 1
  pub given : word_at b.registers 0 ≡ result
  pub stays : AfterCall call.registers b.registers
  pub waiting : b.waiting ≡ others

-- A step from a slot of the program.
pub record Steps (code : Code) (a b : State) : Type 0 where
  pub n : ℕ
  pub s : bpf_insn
  pub at : a.slot ≡ pos n
  pub here : slice_get code.slots n ≡ Some s
  pub goes : Runs code n s a b ⊎ (Calls n s a b ⊎ (IsCalledBack n s a b ⊎ Returns s a b))
