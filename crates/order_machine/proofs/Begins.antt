-- A machine before its first step.
use Rattle.std.proofs.Common.{◌≡◌, ℤ, List, [], refl, sym, ap, ◌∙◌, subst}
use Rattle.affine_ast.specs.declared.module.Arg.{Arg}
use Rattle.affine_ast.specs.Nest.{Nest, nest}
use Rattle.direct_meaning.specs.Action.{Action}
use Rattle.direct_meaning.specs.Actions.{actions}
use Rattle.direct_meaning.specs.Direct.{first_state}
use Rattle.direct_meaning.specs.Memory.{module_actions, start_env}
use Rattle.prompt_laws.specs.Rooms.{rooms_in}
use Rattle.order_meaning.specs.Machine.{Core, end_of}
use Rattle.order_memory.specs.declared.memory.Memory.{Memory}
use Rattle.order_memory.specs.Tied.{Tied, IsFirst}
use Rattle.order_machine.specs.declared.machine.Machine.{Machine}
use Rattle.order_machine.specs.Standing.{Setting, IsSound, IsAt, NextIn, left_of, first_of}

module _ (s : Setting) (sound : IsSound s) (n : Nest) (args : List Arg) (body : n ≡ nest s.module_.body) (arguments : args ≡ s.module_.args) (symbols : List ℤ) (numbers : symbols ≡ s.memory.symbols) where
  first_is : (slow : List ℤ) → slow ≡ (first_state s.memory).slow → IsFirst slow (first_of s).core
  first_is slow e = record { registers = refl; slow_is = sym e; live = refl; halves = refl; flights = refl }

  actions_are : actions n (start_env args symbols) ≡ module_actions s.module_ s.memory.symbols
  unfolding module_actions
  actions_are = λ i. actions (body i) (start_env (arguments i) (numbers i))

  pub begins : (m : Machine) (left : List Action) → left ≡ actions n (start_env args symbols) → m.verdict ≡ end_of left → left ≡ left_of m.next m.walk → NextIn m.next m.walk → m.memory.registers.names ≡ m.walk.names
      → (memory : Memory) → m.memory ≡ memory → (slow : List ℤ) → slow ≡ (first_state s.memory).slow → ((x : Core) → IsFirst slow x → Tied (rooms_in n) x memory)
      → m.filler ≡ s.filler → m.capacity ≡ s.capacity → m.engines ≡ s.engines → m.image ≡ s.memory → m.memrefs.items ≡ s.memory.memrefs → m.steps ≡ 0 → IsAt s [] m
  begins m left all verdict next inside names memory is slow long tied filler capacity engines image memrefs count = record {
    stood = record {
      sound = sound;
      run = tt;
      filler = filler;
      capacity = capacity;
      engines = engines;
      image = image;
      memrefs = memrefs;
      verdict = ap end_of (sym actions_are ∙ sym all) ∙ sym verdict;
      rest = λ _. sym actions_are ∙ sym all ∙ next;
      names = names;
      inside = inside;
      tied = subst (λ z. z) (λ k. Tied (rooms_in (body k)) (first_of s).core (sym is k)) (tied (first_of s).core (first_is slow long));
    };
    count = count;
  }
