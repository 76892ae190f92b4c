-- An invocation, from its parts: how its line begins, and the registers that it sends.
use Rattle.script.specs.Names.{ℕ, List, Command}
use Rattle.model.specs.declared.command.Command.TheVariants as command
use Rattle.script.specs.declared.short.Order.{Order}

-- the invocation with these parts, which sends these registers
abbrev pub invoked : Order → List ℕ → Command
invoked o sent =
    command.Invoke (record {
      operation = o.operation;
      process = o.process;
      register = o.register;
      words = o.words;
      sent = sent;
    })
