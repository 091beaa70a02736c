-- A search as a stack of open structs and unions, the innermost last.
use Rattle.std.specs.Prelude.{◌≡◌, ℕ, zero, suc, ◌+◌, ◌<◌, ◌≤◌, ◌⊎◌, ⊤, true, false, ◌-◌, ◌==◌, ◌||◌, Bool, List, [], ◌∷◌, ◌++◌, drop, length, map, Option, None, Some, Result, Ok}
use Rattle.std.specs.List.{list_any}
use Rattle.std.specs.Option.{option_map_or}
use Rattle.core_spec.specs.Lookups.{with_type}
use Rattle.core_spec.specs.declared.error.AccessError.{AccessError}
use Rattle.core_spec.specs.declared.error.AccessError.TheVariants.{MaximumNestingLevelReached}
use Rattle.btf_records.specs.Fields.{members_of}
use Rattle.btf_records.specs.declared.item.BtfMember.{BtfMember}
use Rattle.btf_records.specs.declared.types.BtfType.{BtfType}
use Rattle.btf_tables.specs.Tables.{Table, type_by_id}
use Rattle.core_match.specs.EmptyTypes.{AreApart, HoldNothing, NotesOne, failing, free, is_noted}
use Rattle.core_match.specs.Looks.{Search, look_at}
use Rattle.core_match.specs.Searches.{found_in, is_among, members_found, most_open, or_next}
use Rattle.core_match.specs.declared.look.Look.{Look}
use Rattle.core_match.specs.declared.look.Look.TheVariants.{Descend, Match, Mismatch, Next}
use Rattle.core_match.specs.declared.search.FoundMember.{FoundMember}
use Rattle.core_match.specs.declared.turn.Frame.{Frame}
use Rattle.core_match.specs.declared.turn.Turn.{Turn}
use Rattle.core_match.specs.declared.turn.Turn.TheVariants as turns

-- A struct or union before its members are compared.
abbrev pub entered : ℕ → Option ℕ → Frame
entered id bits = record { type_id = id; next = 0; bits = bits }

-- Whether a struct or union of an id is open.
abbrev pub is_open : List Frame → ℕ → Bool
is_open stack id = list_any (λ f. f.type_id == id) stack

abbrev pub ids : List Frame → List ℕ
ids stack = map (λ f. f.type_id) stack

-- The open ids, with this struct or union as the innermost.
abbrev pub opened : List Frame → Frame → List ℕ
opened outer f = ids outer ++ f.type_id ∷ []

-- The result of the remaining members of the innermost struct or union.
unfoldable pub rest_of : Search → List ℕ → Frame → Result (Option FoundMember) AccessError
rest_of search open_ids f =
    with_type search.target f.type_id (λ t.
    members_found (found_in (most_open search.target - length open_ids) search open_ids) search
    f.type_id t (length open_ids) f.bits f.next (drop f.next (members_of t)))

-- The result of the remaining members of these structs and unions, the innermost first. `below` is
-- the result after them.
unfoldable pub value_above : Search
    → List ℕ
    → List Frame
    → Result (Option FoundMember) AccessError
    → Result (Option FoundMember) AccessError
value_above search open_ids [] below = below
value_above search open_ids (f ∷ fs) below =
    value_above search (open_ids ++ f.type_id ∷ []) fs
    (or_next (rest_of search (open_ids ++ f.type_id ∷ []) f) below)

abbrev pub stack_value : Search → List Frame → Result (Option FoundMember) AccessError
stack_value search stack = value_above search [] stack (Ok None)

-- ---- The remaining work

-- The number of remaining members.
abbrev pub left_of : Table → Frame → ℕ
left_of target f =
    option_map_or (λ t. length (members_of t) - f.next) (type_by_id target f.type_id) 0

abbrev pub turns_left : Table → List Frame → ℕ
turns_left target [] = 0
turns_left target (f ∷ fs) = suc (left_of target f) + turns_left target fs

-- The number of turns for a struct or union that hasn't been entered.
abbrev pub turns_in : Table → ℕ → ℕ
turns_in target id = suc (left_of target (entered id None))

abbrev pub is_met : List ℕ → List ℕ → ℕ → Bool
is_met noted open_ids id = is_among open_ids id || is_noted noted id

-- A measure that each turn decreases.
abbrev pub work : Table → List ℕ → List Frame → Frame → ℕ
work target noted outer f =
    turns_left target (outer ++ f ∷ [])
    + failing (turns_in target) (is_met noted (opened outer f)) (most_open target)

-- ---- The invariants between turns

-- A member that is passed isn't the match: it has another name, or it has no name and its struct or
-- union has no match.
abbrev pub Passes : (ℕ → Bool) → Result Look AccessError → Type 0
Passes holds_nothing (Ok Next) = ⊤
Passes holds_nothing (Ok (Descend id)) = holds_nothing id ≡ true
Passes holds_nothing _ = ⊥

-- The first n members are passed.
abbrev pub ArePassed : Search → (ℕ → Bool) → ℕ → List BtfMember → Type 0
ArePassed search holds_nothing zero members = ⊤
ArePassed search holds_nothing (suc n) [] = ⊤
ArePassed search holds_nothing (suc n) (m ∷ ms) =
    Passes holds_nothing (look_at search m) × ArePassed search holds_nothing n ms

-- There are no more members, or the next member has the name and isn't compatible.
abbrev pub Ends : Search → Option BtfMember → Type 0
Ends search None = ⊤
Ends search (Some m) = Ok Mismatch ≡ look_at search m

-- The members before the next one are passed.
pub record IsPassed (search : Search) (holds_nothing : ℕ → Bool) (f : Frame) : Type 0 where
  pub members : (t : BtfType)
      → type_by_id search.target f.type_id ≡ Some t
      → ArePassed search holds_nothing f.next (members_of t)

-- Whether an id is noted or is that of the struct or union that is being searched.
abbrev pub or_noted : List ℕ → ℕ → ℕ → Bool
or_noted noted top id = (id == top) || is_noted noted id

abbrev pub first_id : List Frame → ℕ → ℕ
first_id [] top = top
first_id (f ∷ fs) top = f.type_id

-- Each outer struct or union has passed the members before the one that contains the next inner
-- struct or union.
abbrev pub AllPassed : Search → List ℕ → List Frame → ℕ → Type 0
AllPassed search noted [] top = ⊤
AllPassed search noted (f ∷ fs) top =
    IsPassed search (or_noted noted (first_id fs top)) f × AllPassed search noted fs top

pub record IsSound (search : Search) (noted : List ℕ) (outer : List Frame) (f : Frame)
    : Type 0 where
  pub nothing : HoldNothing search noted
  pub apart : AreApart noted (opened outer f)
  pub few : free (most_open search.target) (opened outer f) + length (opened outer f)
      ≤ most_open search.target
  pub passed : IsPassed search (is_noted noted) f
  pub around : AllPassed search noted outer f.type_id

-- ---- A turn

-- A turn that continues: the new stack has the same result, less work and the invariants.
pub record GoesOn (search : Search) (before : List ℕ) (below : List Frame) (f : Frame)
    (after : List ℕ) (new : List Frame) (g : Frame) : Type 0 where
  pub same : stack_value search (new ++ g ∷ []) ≡ stack_value search (below ++ f ∷ [])
  pub less : work search.target after new g < work search.target before below f
  pub sound : IsSound search after new g

-- A turn continues, finds the member, or ends the search.
abbrev pub IsTurn : Search
    → List ℕ
    → List Frame
    → Frame
    → Turn
    → List ℕ
    → List Frame
    → Type 0
IsTurn search before below f (turns.Found found) after new =
    stack_value search (below ++ f ∷ []) ≡ Ok (Some found)
IsTurn search before below f (turns.On g) after new = GoesOn search before below f after new g
IsTurn search before below f turns.Over after new = stack_value search (below ++ f ∷ []) ≡ Ok None

-- The innermost struct or union has no match and is left. The search continues in the one around
-- it.
abbrev pub IsLeft : ℕ → List Frame → List ℕ → Turn → List Frame → List ℕ → Type 0
IsLeft id old before (turns.Found found) new after = ⊥
IsLeft id old before (turns.On g) new after = (old ≡ new ++ g ∷ []) × NotesOne before after id
IsLeft id old before turns.Over new after = old ≡ []

-- A struct or union that isn't open is entered.
abbrev pub IsEntered : ℕ
    → Option ℕ
    → Frame
    → List Frame
    → List ℕ
    → Turn
    → List Frame
    → List ℕ
    → Type 0
IsEntered id bits f old before turn new after =
    (turn ≡ turns.On (entered id bits))
    × (new ≡ old ++ f ∷ [])
    × (after ≡ before)
    × (is_noted before id ≡ false)
    × (is_open (old ++ f ∷ []) id ≡ false)

-- The innermost struct or union continues as this one.
abbrev pub StaysIn : Frame → List Frame → List ℕ → Turn → List Frame → List ℕ → Type 0
StaysIn f old before turn new after = (turn ≡ turns.On f) × (new ≡ old) × (after ≡ before)

-- The effect of the comparison of a member on the stack without the innermost struct or union. `f`
-- is the innermost one after that member. A member that is known to have no match isn't entered.
abbrev pub IsFollowed : Look
    → FoundMember
    → Frame
    → List Frame
    → List ℕ
    → Turn
    → List Frame
    → List ℕ
    → Type 0
IsFollowed Next here f old before turn new after = StaysIn f old before turn new after
IsFollowed Mismatch here f old before turn new after = IsLeft f.type_id old before turn new after
IsFollowed Match here f old before turn new after = turn ≡ turns.Found here
IsFollowed (Descend id) here f old before turn new after =
    ((is_noted before id ≡ true) × StaysIn f old before turn new after)
    ⊎ IsEntered id here.bits f old before turn new after

-- The error for a struct or union that contains itself.
abbrev pub IsOpenInside : Look → List Frame → AccessError → Type 0
IsOpenInside (Descend id) stack e = (e ≡ MaximumNestingLevelReached) × (is_open stack id ≡ true)
IsOpenInside _ stack e = ⊥
