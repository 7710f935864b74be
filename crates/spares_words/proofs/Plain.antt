-- Words that begin with no hyphen, and what a walk over them gives.
use Rattle.std.proofs.Common.{◌≡◌, ◌∙◌, ◌==◌, ◌||◌, ap, Bool, true, false, refl, List, [], ◌∷◌, ◌++◌, Option, Some, None, is_some, not, Result, Err, ℕ, map, fold, codes, if◌then◌else◌}
use Rattle.std.proofs.lemmas.Bool.{ne_eqb}
use Rattle.std.specs.Str.{bytes_eq}
use Rattle.clap.specs.Lexer.{long_of, short_of}
use Rattle.clap.specs.Words.{App, Rule, Shape, Text, built}
use Rattle.clap.specs.Kinds.{Kinds, or_else}
use Rattle.clap.specs.Simple.{entered}
use Rattle.clap.specs.Faults.{check_fault, defaults_fault, entered_fault, settle_fault, step_fault, turn_fault, walk_fault}
use Rattle.clap.specs.Walk.{Held, Waiting, Walk, idle, option, positional, after_step, finished, is_empty, nothing_held, plain_word, settled, walk_from, walked}
use Rattle.spares_words.specs.Commands.{plan_app, single_app}
use Rattle.spares_words.specs.Laws.{IsPlain, TakesTwoWords, TakesAnyWords, TakesOptionAnywhere, TakesJoinedAnywhere, RefusesOtherCounts, RefusesSecondOption, TakesJoinedPlan}
use Rattle.spares_words.specs.Order.{by_command, order_of, single_of}
use Rattle.spares_words.specs.declared.commands.CommandName.TheVariants.{Single}
use Rattle.spares_words.specs.declared.order.Order.{Order}
use Rattle.spares_words.specs.declared.order.WordsFault.{WordsFault}
use Rattle.spares_words.specs.declared.order.WordsFault.TheVariants as bad

-- what a plain word is not: an option, a bundle of flags, the end of the options
record IsValue (word : Text) : Type 0 where
  long : long_of word ≡ None
  short : short_of word ≡ None
  end : bytes_eq word (45 ∷ 45 ∷ []) ≡ false

one_byte : (c : ℕ) (t : Bool) → (c == 45) ≡ t → IsValue (c ∷ [])
one_byte c true e = record { long = rw e refl; short = rw e refl; end = rw e refl }
one_byte c false e = record { long = rw e refl; short = rw e refl; end = rw e refl }

-- a plain word is no option, no bundle of flags and not the end of the options
no_long : (word : Text) → IsPlain word → long_of word ≡ None
no_long [] p = refl
no_long (c ∷ []) p = (one_byte c (c == 45) refl).long
no_long (c ∷ d ∷ rest) p = rw (ne_eqb c 45 p) refl

no_short : (word : Text) → IsPlain word → short_of word ≡ None
no_short [] p = refl
no_short (c ∷ []) p = (one_byte c (c == 45) refl).short
no_short (c ∷ d ∷ rest) p = rw (ne_eqb c 45 p) refl

no_end : (word : Text) → IsPlain word → bytes_eq word (45 ∷ 45 ∷ []) ≡ false
no_end [] p = refl
no_end (c ∷ []) p = (one_byte c (c == 45) refl).end
no_end (c ∷ d ∷ rest) p = rw (ne_eqb c 45 p) refl

-- ---- a walk over words of which some are known to be plain

-- a word that is known to be plain, or any word
data Word : Type 0 where
  plain : (word : Text) → IsPlain word → Word
  other : Text → Word

abbrev text_of : Word → Text
text_of (plain word p) = word
text_of (other word) = word

-- no words are passed over or taken as they stand
abbrev is_open : Walk → Bool
is_open w = not (w.is_trailing || is_some w.stopped)

-- where the walk stands after a word that is no option
abbrev after_value : List Rule → Walk → Text → Walk
after_value rules w word =
    let met = plain_word rules w.waiting word w.held in
    after_step rules word w met.0 met.1

-- where the walk stands after a word
abbrev after : List Rule → Walk → Word → Walk
after rules w (other word) = walked rules [] w word
after rules w (plain word p) = if is_open w then after_value rules w word else walked rules [] w word

-- the fault of a word that is no option
abbrev value_fault : Shape → Walk → Text → Kinds
value_fault s w word =
    let met = plain_word s.rules w.waiting word w.held in
    step_fault s w.position met.0 met.1

-- the fault of a word
abbrev fault_at : Shape → Walk → Word → Kinds
fault_at s w (other word) = turn_fault s [] w word
fault_at s w (plain word p) = if is_open w then value_fault s w word else turn_fault s [] w word

-- where the walk stands after words, and their first fault
abbrev after_all : List Rule → Walk → List Word → Walk
after_all rules w [] = w
after_all rules w (word ∷ rest) = after_all rules (after rules w word) rest

abbrev fault_in : Shape → Walk → List Word → Kinds
fault_in s w [] = []
fault_in s w (word ∷ rest) = or_else (fault_at s w word) (fault_in s (after s.rules w word) rest)

-- a plain word is no option
abbrev open_walk : Held → Waiting → ℕ → Walk
open_walk held waiting position =
    record { held = held; waiting = waiting; position = position; is_trailing = false; stopped = None }

steps_over : (rules : List Rule) (held : Held) (waiting : Waiting) (position : ℕ) (word : Text) → IsPlain word
    → walked rules [] (open_walk held waiting position) word ≡ after_value rules (open_walk held waiting position) word
unfolding walked
steps_over rules held idle position word p = rw (no_end word p, no_long word p, no_short word p) refl
steps_over rules held (option id) position word p = rw (no_end word p, no_long word p, no_short word p) refl
steps_over rules held positional position word p = rw (no_end word p, no_long word p, no_short word p) refl

faults_by : (s : Shape) (held : Held) (waiting : Waiting) (position : ℕ) (word : Text) → IsPlain word
    → turn_fault s [] (open_walk held waiting position) word ≡ value_fault s (open_walk held waiting position) word
faults_by s held idle position word p = rw (no_end word p, no_long word p, no_short word p) refl
faults_by s held (option id) position word p = rw (no_end word p, no_long word p, no_short word p) refl
faults_by s held positional position word p = rw (no_end word p, no_long word p, no_short word p) refl

after_is : (rules : List Rule) (held : Held) (waiting : Waiting) (position : ℕ) (trailing : Bool)
    (stopped : Option (Text × List Text)) (word : Word)
    → let w : Walk = record { held = held; waiting = waiting; position = position; is_trailing = trailing; stopped = stopped } in
    walked rules [] w (text_of word) ≡ after rules w word
after_is rules held waiting position trailing stopped (other word) = refl
after_is rules held waiting position true stopped (plain word p) = refl
after_is rules held waiting position false (Some s) (plain word p) = refl
after_is rules held waiting position false None (plain word p) = steps_over rules held waiting position word p

fault_is : (s : Shape) (held : Held) (waiting : Waiting) (position : ℕ) (trailing : Bool)
    (stopped : Option (Text × List Text)) (word : Word)
    → let w : Walk = record { held = held; waiting = waiting; position = position; is_trailing = trailing; stopped = stopped } in
    turn_fault s [] w (text_of word) ≡ fault_at s w word
fault_is s held waiting position trailing stopped (other word) = refl
fault_is s held waiting position true stopped (plain word p) = refl
fault_is s held waiting position false (Some stop) (plain word p) = refl
fault_is s held waiting position false None (plain word p) = faults_by s held waiting position word p

stands_after : (rules : List Rule) (w : Walk) (words : List Word)
    → fold (walked rules []) w (map text_of words) ≡ after_all rules w words
stands_after rules w [] = refl
stands_after rules w (word ∷ rest) =
    ap (λ (v : Walk). fold (walked rules []) v (map text_of rest))
    (after_is rules w.held w.waiting w.position w.is_trailing w.stopped word)
    ∙ stands_after rules (after rules w word) rest

first_fault : (s : Shape) (w : Walk) (words : List Word) → walk_fault s [] w (map text_of words) ≡ fault_in s w words
unfolding walk_fault
first_fault s w [] = refl
first_fault s w (word ∷ rest) =
    ap (λ (k : Kinds). or_else k (walk_fault s [] (walked s.rules [] w (text_of word)) (map text_of rest)))
    (fault_is s w.held w.waiting w.position w.is_trailing w.stopped word)
    ∙ ap (λ (v : Walk). or_else (fault_at s w word) (walk_fault s [] v (map text_of rest)))
    (after_is s.rules w.held w.waiting w.position w.is_trailing w.stopped word)
    ∙ ap (or_else (fault_at s w word)) (first_fault s (after s.rules w word) rest)

-- ---- the order of `single`

-- the command as `clap` walks with it
abbrev single : App
single = built single_app

-- the fault of a parse of `single`, from the fault of its walk and where that ended
abbrev fault_after : Kinds → Walk → Kinds
fault_after fault w =
    or_else fault
    (or_else (entered_fault single w.stopped)
    (or_else (settle_fault single.top.rules single.top.args_override_self w.held)
    (or_else (defaults_fault (settled single.top.rules w.held).rows single.top.rules)
    (check_fault single.top (finished single.top.rules w.held) (is_some (entered single w.stopped))))))

-- the order from the same
abbrev order_after : Kinds → Walk → Result Order WordsFault
order_after fault w =
    if is_empty (fault_after fault w) then single_of (finished single.top.rules w.held) else Err bad.Shape

-- the order of words after `single`
abbrev order_at : List Word → Result Order WordsFault
order_at words =
    order_after (fault_in single.top (walk_from nothing_held) words)
    (after_all single.top.rules (walk_from nothing_held) words)

ordered : (words : List Word) → by_command Single (codes "single" ∷ map text_of words) ≡ order_at words
unfolding by_command single_app
ordered words =
    ap (λ (k : Kinds). order_after k (fold (walked single.top.rules []) (walk_from nothing_held) (map text_of words)))
    (first_fault single.top (walk_from nothing_held) words)
    ∙ ap (order_after (fault_in single.top (walk_from nothing_held) words))
    (stands_after single.top.rules (walk_from nothing_held) words)

-- two plain words are the mean and the stock
pub takes_two_words : TakesTwoWords
unfolding order_of single_app walked defaults_fault
takes_two_words mean stock p q = ordered (plain mean p ∷ plain stock q ∷ [])

-- any two words are, after two hyphens
pub takes_any_words : TakesAnyWords
unfolding order_of single_app walked defaults_fault
takes_any_words mean stock = ordered (other (codes "--") ∷ other mean ∷ other stock ∷ [])

-- `--variance` and its value are taken before, between or after the mean and the stock
pub takes_option : TakesOptionAnywhere
unfolding order_of single_app walked defaults_fault
takes_option mean stock variance p q r =
    let id = other (codes "--variance") in
    record {
      before = ordered (id ∷ plain variance r ∷ plain mean p ∷ plain stock q ∷ []);
      between = ordered (plain mean p ∷ id ∷ plain variance r ∷ plain stock q ∷ []);
      after = ordered (plain mean p ∷ plain stock q ∷ id ∷ plain variance r ∷ []);
    }

-- `--variance=V` is taken before, between or after the mean and the stock
pub takes_joined : TakesJoinedAnywhere
unfolding order_of single_app walked defaults_fault
takes_joined mean stock variance p q =
    let joined = other (codes "--variance=" ++ variance) in
    record {
      before = ordered (joined ∷ plain mean p ∷ plain stock q ∷ []);
      between = ordered (plain mean p ∷ joined ∷ plain stock q ∷ []);
      after = ordered (plain mean p ∷ plain stock q ∷ joined ∷ []);
    }

-- one word, three words and an option without its value are refused
pub refuses : RefusesOtherCounts
unfolding order_of single_app walked defaults_fault
refuses a b c p q r = record {
  one_word = ordered (plain a p ∷ []);
  three_words = ordered (plain a p ∷ plain b q ∷ plain c r ∷ []);
  no_value = ordered (plain a p ∷ plain b q ∷ other (codes "--variance") ∷ []);
}

-- a second variance is refused
pub refuses_second : RefusesSecondOption
unfolding order_of by_command single_app walk_fault walked defaults_fault
refuses_second variance second rest = refl

-- a plan takes its options with their values behind equals signs
pub takes_joined_plan : TakesJoinedPlan
unfolding order_of by_command plan_app walk_fault walked defaults_fault
takes_joined_plan sites parts rates budget certificate = refl
