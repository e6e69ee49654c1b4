-- Requests: when a channel asks for the bus.
use Rattle.std.specs.Prelude.{Bool, true, false, cond, not, ◌&&◌, ◌||◌, ◌==◌, nat_le}
use Rattle.registers.specs.Config.{is_burst, reqg}
use Rattle.registers.specs.Control.{is_halted}
use Rattle.registers.specs.Status.{is_active}
use Rattle.channel.specs.State.{Channel, Phase, Idle, Fetching, Inside, Words, NoWord, OneWord, TwoWords, ThreeWords, FourWords, with_requests}

-- A request that needs no line: automatic requests, and an operation's first operand under REQG 3.
abbrev pub is_automatic : Channel → Bool
is_automatic c = nat_le (reqg c.registers.config) 1 || (reqg c.registers.config == 3 && c.first)

-- In burst mode the line asks while it is on, in cycle steal mode by a latched change from off to on.
abbrev pub is_requested : Channel → Bool
is_requested c = is_automatic c || cond (is_burst c.registers.config) c.line c.latch

-- An operand begins: it is the operation's first no longer, and unless it was automatic it spends the latched change.
abbrev pub operand_begun : Channel → Channel
operand_begun c = with_requests c.line (is_automatic c && c.latch) false c

-- The request line is set: a change from off to on of an active channel in cycle steal mode is latched.
abbrev pub line_set : Bool → Channel → Channel
line_set on c =
    with_requests on
    (c.latch || (on && (not c.line && (is_active c.registers.status && not (is_burst c.registers.config)))))
    c.first c

abbrev pub has_words : Words → Bool
has_words NoWord = false
has_words (OneWord a) = true
has_words (TwoWords a b) = true
has_words (ThreeWords a b x) = true
has_words (FourWords a b x y) = true

-- A channel is inside an operand or an entry once a cycle of it is done.
abbrev pub is_inside_phase : Phase → Bool
is_inside_phase Idle = false
is_inside_phase (Fetching ws) = has_words ws
is_inside_phase (Inside k h d) = true

abbrev pub is_inside : Channel → Bool
is_inside c = is_inside_phase c.phase

abbrev pub is_fetching_phase : Phase → Bool
is_fetching_phase Idle = false
is_fetching_phase (Fetching ws) = true
is_fetching_phase (Inside k h d) = false

-- A channel counts in the choice if it is active and not halted and has an entry to fetch or a request.
abbrev pub is_counting : Channel → Bool
is_counting c =
    is_active c.registers.status
    && (not (is_halted c.registers.control) && (is_fetching_phase c.phase || is_requested c))
