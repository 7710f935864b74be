-- The commands of the command line, as `clap` knows them: no help, no version, no subcommands.
use Rattle.std.specs.Prelude.{true, List, [], ◌∷◌, Option, Some, None, if◌then◌else◌, codes}
use Rattle.std.specs.Str.{bytes_eq}
use Rattle.clap.specs.Words.{App, Rule, Text, new_rule, with_rule, new_app}
use Rattle.clap.specs.Simple.{on_top}
use Rattle.spares_words.specs.declared.commands.CommandName.{CommandName}
use Rattle.spares_words.specs.declared.commands.CommandName.TheVariants.{Single, Eval, Plan, Check, Demo, Sweep, Target, Session, Compare}
use Rattle.spares_words.specs.declared.commands.Parameter.{Parameter}
use Rattle.spares_words.specs.declared.commands.Parameter.TheVariants as parameter

-- the command of this name
abbrev pub command_named : Text → Option CommandName
command_named name =
    if bytes_eq name (codes "single") then Some Single
    else if bytes_eq name (codes "eval") then Some Eval
    else if bytes_eq name (codes "plan") then Some Plan
    else if bytes_eq name (codes "check") then Some Check
    else if bytes_eq name (codes "demo") then Some Demo
    else if bytes_eq name (codes "sweep") then Some Sweep
    else if bytes_eq name (codes "target") then Some Target
    else if bytes_eq name (codes "session") then Some Session
    else if bytes_eq name (codes "compare") then Some Compare
    else None

-- a required value without an option name
abbrev pub positional : Text → Rule
positional id = record (new_rule id) { required = true }

-- `--id VALUE` or `--id=VALUE`, which may be left out
abbrev pub option : Text → Rule
option id = record (new_rule id) { long = Some id }

-- `--id VALUE` or `--id=VALUE`, which is required
abbrev pub required_option : Text → Rule
required_option id = record (new_rule id) { long = Some id; required = true }

-- the rule of an argument
abbrev pub rule_of_parameter : Parameter → Rule
rule_of_parameter (parameter.Positional id) = positional id.now
rule_of_parameter (parameter.Optional id) = option id.now
rule_of_parameter (parameter.Required id) = required_option id.now

-- a command with further arguments, in order
abbrev pub with_parameters : App → List Parameter → App
with_parameters app [] = app
with_parameters app (parameter ∷ parameters) =
    with_parameters (with_rule app (rule_of_parameter parameter)) parameters

-- a command with only its own name
abbrev pub bare : Text → App
bare name = on_top (λ s. record s { disable_help_flag = true; disable_version_flag = true }) (new_app name)

-- single MEAN STOCK [--variance V]
unfoldable pub single_app : App
single_app =
    with_rule (with_rule (with_rule (bare (codes "single"))
    (positional (codes "mean")))
    (positional (codes "stock")))
    (option (codes "variance"))

-- the options that name the tables of a case
abbrev pub with_tables : App → App
with_tables app =
    with_rule (with_rule (with_rule app
    (required_option (codes "sites")))
    (required_option (codes "parts")))
    (required_option (codes "rates"))

-- a command with the tables of a case and one further option
abbrev pub tables_and : Text → Text → App
tables_and name id = with_rule (with_tables (bare name)) (required_option id)

-- eval --sites F --parts F --rates F --stocks F [--bits N]
unfoldable pub eval_app : App
eval_app = with_rule (tables_and (codes "eval") (codes "stocks")) (option (codes "bits"))

-- the options of a plan's aim
abbrev pub with_aim : App → App
with_aim app =
    with_rule (with_rule (with_rule app
    (required_option (codes "budget")))
    (option (codes "on-hand")))
    (option (codes "objective"))

-- the options of the certificate that a plan writes
abbrev pub with_certificate : App → App
with_certificate app = with_rule (with_rule app (required_option (codes "certificate"))) (option (codes "format"))

-- plan --sites F --parts F --rates F [--on-hand F] --budget N [--format N] [--objective NAME] --certificate F
unfoldable pub plan_app : App
plan_app = with_certificate (with_aim (with_tables (bare (codes "plan"))))

-- check --certificate F
unfoldable pub check_app : App
check_app = with_rule (bare (codes "check")) (required_option (codes "certificate"))

-- demo NUMBER LINES
unfoldable pub demo_app : App
demo_app =
    with_rule (with_rule (bare (codes "demo"))
    (positional (codes "number")))
    (positional (codes "lines"))

-- sweep --sites F --parts F --rates F
unfoldable pub sweep_app : App
sweep_app = with_tables (bare (codes "sweep"))

-- target --sites F --parts F --rates F --backorders X
unfoldable pub target_app : App
target_app = tables_and (codes "target") (codes "backorders")

-- session --sites F --parts F --rates F --edits F
unfoldable pub session_app : App
session_app = tables_and (codes "session") (codes "edits")

-- compare --sites F --parts F --rates F --stocks F
unfoldable pub compare_app : App
compare_app = tables_and (codes "compare") (codes "stocks")

-- a command with its arguments and options
abbrev pub app_named : CommandName → App
app_named Single = single_app
app_named Eval = eval_app
app_named Plan = plan_app
app_named Check = check_app
app_named Demo = demo_app
app_named Sweep = sweep_app
app_named Target = target_app
app_named Session = session_app
app_named Compare = compare_app
