-- Proofs of the worked rows: the definitions are computed.
use Rattle.model_laws.proofs.Names.{ℕ, true, false, Option, None, Some, List, [], codes, All, bytes_eq, inl, inr, refl, sym, ap, subst, arith}
use Rattle.model_laws.proofs.Names.{All-from_recursion, bytes_eq-Decides, Up, Answer, Outcome, outcome, refusal_of, carried_out, shown, small, i0, Refusal}
use Rattle.model_laws.proofs.Names.{Command, Return, Fits, spelling, IsRow, references, objects, processes, refusals, saving, invokes, AnswersBySteps}
use Rattle.model_laws.proofs.Names.{FailsBetween, OpensAgain, WantsMemory, RescindsProcess, ChainsBanks, RevokesOnly, SaysCommands, SaysNothing, SaysBad}
use Rattle.model_laws.proofs.Names.{CutsLines, RunsScript, PrintsRefusals}
use Rattle.std.proofs.Common.{◌≡◌, ◌≢◌, ◌∷◌, ◌++◌, ◌∙◌}
use Rattle.model.specs.Machine.{Running as Machine, Machine as UpOrDown}
use Rattle.model.specs.declared.answer.Answer.TheVariants as answer
use Rattle.model.specs.declared.command.Command.TheVariants as command
use Rattle.model.specs.declared.line.Line.TheVariants as line
use Rattle.model_laws.proofs.Spelling.{split, command_of, reads_spelling}
use Rattle.model_laws.proofs.Rows.{IsRight, fits_holds, machine, rows_hold}

pub objects_hold : All IsRow objects
unfolding machine objects
objects_hold = rows_hold objects (All-from_recursion IsRight objects (refl, (refl, (refl, (refl, (refl, (refl, (refl, (refl, tt)))))))))

pub processes_hold : All IsRow processes
unfolding machine processes
processes_hold = rows_hold processes (All-from_recursion IsRight processes (
  refl,
  (refl, (refl, (refl, (refl, (refl, (refl, (refl, (refl, tt)))))))),
))

pub references_hold : All IsRow references
unfolding machine references
references_hold = rows_hold references (All-from_recursion IsRight references (refl, (refl, (refl, (refl, (refl, tt))))))

pub saving_hold : All IsRow saving
unfolding machine saving
saving_hold = rows_hold saving (All-from_recursion IsRight saving (refl, (refl, (refl, (refl, (refl, (refl, (refl, tt))))))))

pub refusals_hold : All IsRow refusals
unfolding machine refusals
refusals_hold = rows_hold refusals (All-from_recursion IsRight refusals (refl, (refl, (refl, (refl, (refl, (refl, (refl, tt))))))))

-- the outcome of a command with this refusal or, if there is none, with this outcome
abbrev comes_to : Machine → Outcome → Option Refusal → Outcome
comes_to s o r = elim r [ Some why ↦ outcome (answer.Refused why) s | None ↦ o ]

abbrev IsReplying : Machine → Outcome → Option Refusal → Answer → UpOrDown → Type 0
IsReplying s o r a after = elim r [
  | Some why ↦ (a ≡ answer.Refused why) × (after ≡ Up s)
  | None ↦ (a ≡ o.answer) × (after ≡ Up o.after)
]

answers_of : (s : Machine) (o : Outcome) (r : Option Refusal) → IsReplying s o r (comes_to s o r).answer (Up (comes_to s o r).after)
answers_of s o None = (refl, refl)
answers_of s o (Some why) = (refl, refl)

pub answers_by_steps : AnswersBySteps
answers_by_steps s c = inl (answers_of s (carried_out small s c) (refusal_of small s c))

pub fails_between : FailsBetween
unfolding machine
fails_between = (refl, refl, refl, refl, refl, refl, refl, refl, refl, refl)

pub opens_again : OpensAgain
opens_again a b = ((refl, refl), (b, (1, omega arith, refl), refl, refl), (a, (0, omega arith, refl), refl, refl))

pub rescinds_process : RescindsProcess
unfolding machine
rescinds_process = (refl, refl)

pub chains_banks : ChainsBanks
unfolding machine
chains_banks = (refl, refl)

pub says_commands : SaysCommands
unfolding machine
says_commands = (
  (omega arith, refl),
  (omega arith, refl),
  (omega arith, refl),
  (omega arith, refl),
  (fits_holds (invokes Return 3 31 (9 ∷ 0 ∷ 0 ∷ 0 ∷ []) (5 ∷ 0 ∷ 0 ∷ 31 ∷ [])) refl, refl),
)

pub says_nothing : SaysNothing
says_nothing = ((omega arith, tt), (omega arith, refl), (omega arith, refl))

-- if a text spells a command, it is the one that its words name
replying_by_words : (text : List ℕ) (c : Command) → Fits c → text ≡ spelling c → command_of (split text) ≡ c
replying_by_words text c fits e = ap (λ t. command_of (split t)) e ∙ reads_spelling c fits

-- if a text isn't the spelling of the command that its words name, it spells no command
spells_another : (text : List ℕ) → bytes_eq text (spelling (command_of (split text))) ≡ false → (c : Command) → Fits c → text ≢ spelling c
spells_another text differs c fits e =
    let spelled : text ≡ spelling (command_of (split text)) = e ∙ ap spelling (sym (replying_by_words text c fits e)) in
    let same : bytes_eq text (spelling (command_of (split text))) ≡ true = (bytes_eq-Decides text (spelling (command_of (split text)))).1
    spelled in
    cc

-- if the command that a text's words name has no spelling, the text spells no command
does_not_fit : (text : List ℕ) → (Fits (command_of (split text)) → ⊥) → (c : Command) → Fits c → text ≢ spelling c
does_not_fit text unfit c fits e = unfit (subst Fits (sym (replying_by_words text c fits e)) fits)

pub says_bad : SaysBad
unfolding machine command_of
says_bad = (
  inl (omega arith),
  inl (omega arith),
  inr (λ e. omega arith, spells_another (codes "show 01") refl),
  inr (λ e. omega arith, spells_another (codes "show  5") refl),
  inr (λ e. omega arith, spells_another (codes " show 5") refl),
  inr (λ e. omega arith, spells_another (codes "show 5 ") refl),
  inr (λ e. omega arith, spells_another (codes "show 5" ++ 13 ∷ []) refl),
  inr (λ e. omega arith, spells_another (codes "show") refl),
  inr (λ e. omega arith, does_not_fit (codes "call 1 32 0 0 0 0 0 0 0 0") (λ f. omega (arith, f.1))),
  inr (λ e. omega arith, does_not_fit (codes "show 18446744073709551616") (λ f. omega (arith, f))),
)

pub cuts_lines : CutsLines
cuts_lines = (refl, refl, refl, refl)

-- a run over two bad lines and a line that shows an object gives the worked replies
pub runs_script : RunsScript
unfolding machine command_of
runs_script = (
  refl,
  (
    refl,
    (line.Bad, says_bad.0, (refl, refl)),
    (
      refl,
      (line.Bad, says_bad.2, (refl, refl)),
      (refl, (line.Command (command.Show 5), says_commands.0, (shown i0.objects 5, refl, inl (refl, refl))), refl),
    ),
  ),
  refl,
)

pub wants_memory : WantsMemory
unfolding machine
wants_memory = (
  inr (inl (refl, refl, refl)),
  inr (inl (refl, refl, refl)),
  λ m step. elim step [ inl replying ↦ cc | inr other ↦ elim other [ inl want ↦ cc | inr fault ↦ cc ] ],
  λ m step. elim step [ inl replying ↦ cc | inr other ↦ elim other [ inl want ↦ cc | inr fault ↦ cc ] ],
  λ m step. elim step [ inl replying ↦ cc | inr other ↦ elim other [ inl want ↦ cc | inr fault ↦ cc ] ],
  λ m step. elim step [ inl replying ↦ cc | inr other ↦ elim other [ inl want ↦ cc | inr fault ↦ cc ] ],
  λ m step. elim step [ inl replying ↦ cc | inr other ↦ elim other [ inl want ↦ cc | inr fault ↦ cc ] ],
)

pub prints_refusals : PrintsRefusals
unfolding machine
prints_refusals = refl

pub revokes_only : RevokesOnly
unfolding machine
revokes_only = (refl, refl)

-- the rules that prove each function of `worked`
pub ruleset steps = (answers_by_steps, fails_between, opens_again, wants_memory)

pub ruleset revoking = (rescinds_process, revokes_only, chains_banks)

pub ruleset lines = (says_commands, says_nothing, says_bad, cuts_lines, runs_script, prints_refusals)
