use Rattle.tla_defs.proofs.Worked as worked
use Rattle.tla_defs.proofs.NamedWorked as named
use Rattle.tla_defs.proofs.GivenWorked as given
use Rattle.tla_defs.proofs.SpecificationWorked as specification
use Rattle.tla_defs.proofs.laws.models.Goals as goal

pub returns-clause-counter_of_three : goal.returns-clause-counter_of_three
returns-clause-counter_of_three c = worked.counter_of_three

pub returns-clause-counter_of_five : goal.returns-clause-counter_of_five
returns-clause-counter_of_five c = worked.counter_of_five

pub returns-clause-bounded_steps : goal.returns-clause-bounded_steps
returns-clause-bounded_steps c = worked.bounded_steps

pub returns-clause-bounded_steps_may_end : goal.returns-clause-bounded_steps_may_end
returns-clause-bounded_steps_may_end c = worked.bounded_steps_may_end

pub returns-clause-counts_within : goal.returns-clause-counts_within
returns-clause-counts_within c = worked.counts_within

pub returns-clause-largest_number : goal.returns-clause-largest_number
returns-clause-largest_number c = worked.largest_number

pub returns-clause-with_parameter : goal.returns-clause-with_parameter
returns-clause-with_parameter c = named.with_parameter

pub returns-clause-with_let : goal.returns-clause-with_let
returns-clause-with_let c = named.with_let

pub returns-clause-without_capture : goal.returns-clause-without_capture
returns-clause-without_capture c = named.without_capture

pub returns-clause-with_value : goal.returns-clause-with_value
returns-clause-with_value c = given.with_value

pub returns-clause-two_variables : goal.returns-clause-two_variables
returns-clause-two_variables c = given.two_variables

pub returns-clause-with_replacement : goal.returns-clause-with_replacement
returns-clause-with_replacement c = given.with_replacement

pub returns-clause-specified : goal.returns-clause-specified
returns-clause-specified c = specification.specified

pub returns-clause-specified_in_parts : goal.returns-clause-specified_in_parts
returns-clause-specified_in_parts c = specification.specified_in_parts

pub returns-clause-specified_by_names : goal.returns-clause-specified_by_names
returns-clause-specified_by_names c = specification.specified_by_names
