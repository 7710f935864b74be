-- What a command's words give, from what `clap` makes of them.
use Rattle.std.proofs.Common.{◌≡◌, ◌≢◌, ◌∙◌, ap, arith, sym, subst, refl, inl, inr, true, false, List, [], ◌∷◌, Result, Ok, Err, IfOk, if◌then◌else◌}
use Rattle.clap.specs.Words.{App, HasMatchesOf, Text, built, is_simple, matches_of, is_simple_and_free, fault_of}
use Rattle.clap.specs.Faults.{is_free_app}
use Rattle.clap.specs.Kinds.{FailsBy, HasKind, Kinds}
use Rattle.clap.specs.Values.{kind_of}
use Rattle.clap.specs.Walk.{is_empty}
use Rattle.clap.specs.declared.error.Error.{Error}
use Rattle.clap.specs.declared.error.kind.ErrorKind.TheVariants as kind
use Rattle.clap.specs.declared.parser.matches.ArgMatches.{ArgMatches}
use Rattle.clap.proofs.WalkLemmas.{both}
use Rattle.answers.specs.declared.stop.Stop.TheVariants.{Fault, NoMemory}
use Rattle.answers.specs.declared.stop.Stop.{Stop}
use Rattle.answers.specs.Answers.{Gives}
use Rattle.spares_words.specs.Commands.{app_named, check_app, compare_app, demo_app, eval_app, plan_app, session_app, single_app, sweep_app, target_app}
use Rattle.spares_words.specs.Order.{by_command, order_named, Follows}
use Rattle.spares_words.specs.declared.commands.CommandName.{CommandName}
use Rattle.spares_words.specs.declared.commands.CommandName.TheVariants.{Single, Eval, Plan, Check, Demo, Sweep, Target, Session, Compare}
use Rattle.spares_words.specs.declared.order.Order.{Order}
use Rattle.spares_words.specs.declared.order.WordsFault.{WordsFault}
use Rattle.spares_words.specs.declared.order.WordsFault.TheVariants.{Shape}

-- each command is one of which `clap` tells what it takes
pub each_simple : (name : CommandName) → is_simple_and_free (app_named name) ≡ true
unfolding single_app eval_app plan_app check_app demo_app sweep_app target_app session_app compare_app
each_simple Single = refl
each_simple Eval = refl
each_simple Plan = refl
each_simple Check = refl
each_simple Demo = refl
each_simple Sweep = refl
each_simple Target = refl
each_simple Session = refl
each_simple Compare = refl

-- what `clap` says of its answer for the words of a command
pub record IsParsed (app : App) (words : List Text) (parsed : Result ArgMatches Error) : Type 0 where
  pub matches : IfOk parsed (HasMatchesOf app words)
  pub kinds : is_simple_and_free app ≡ true → FailsBy (fault_of app words) parsed

-- an error for another reason than memory means that the words have a fault
has_fault : (kinds : Kinds) (error : Error) → HasKind kinds error → kind_of error ≢ kind.OutOfMemory
    → is_empty kinds ≡ false
has_fault kinds error (inl memory) apart = absurd (apart memory)
has_fault [] error (inr among) apart = absurd among
has_fault (first ∷ rest) error (inr among) apart = grind arith

-- the order of a command's words is what follows from that answer
follows : (name : CommandName) (words : List Text) (parsed : Result ArgMatches Error)
    (answer : Result Order (Stop WordsFault)) → IsParsed (app_named name) words parsed → Follows name parsed answer
    → Gives (by_command name words) answer
unfolding by_command
follows name words (Ok m) answer p f =
    let app = app_named name in
    let free = each_simple name in
    let simple = both (is_simple app) (is_free_app (built app)) free in
    let is = ap (λ (k : Kinds). if is_empty k then order_named name (matches_of app words) else Err Shape) (p.kinds free)
    ∙ ap (order_named name) (sym (p.matches simple.0).0) in
    let P : Result Order WordsFault → Type 0 = λ a. Gives a answer in
    subst P (sym is) f
follows name words (Err e) (Ok order) p f = absurd f
follows name words (Err e) (Err NoMemory) p f = tt
follows name words (Err e) (Err (Fault fault)) p f =
    let app = app_named name in
    let bad = has_fault (fault_of app words) e (p.kinds (each_simple name)) f.0 in
    ap (λ b. if b then order_named name (matches_of app words) else Err Shape) bad ∙ ap Err (sym f.1)

-- the same for a command that is equal, and words that are
pub handed_up : (name : CommandName) (made : App) → made ≡ app_named name → (given words : List Text) → given ≡ words
    → (parsed : Result ArgMatches Error) (answer : Result Order (Stop WordsFault)) → IsParsed made given parsed
    → Follows name parsed answer → Gives (by_command name words) answer
handed_up name made is given words same parsed answer p f =
    let P : App → Type 0 = λ a. IsParsed a given parsed in
    let Q : List Text → Type 0 = λ ws. IsParsed (app_named name) ws parsed in
    follows name words parsed answer (subst Q same (subst P is p)) f
