-- What a module gives to a body, as the code has it.
use Rattle.std.specs.Prelude.{option_to_list}
use Rattle.wasm_typing.specs.Typing.{Context}
use Rattle.wasm_typing.specs.declared.context.BodyContext.{BodyContext}

abbrev pub context_of : BodyContext → Context
context_of c = record {
  types = c.types.now;
  functions = c.functions.now;
  tables = c.tables;
  memories = c.memories;
  globals = c.globals.now;
  locals = c.locals.now;
  returns = option_to_list c.returns;
}
