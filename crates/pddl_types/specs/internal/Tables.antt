-- Internal: the tables by which the names of a domain are found.
use Rattle.std.specs.Prelude.{◌≡◌}
use Rattle.pddl_terms.specs.declared.files.Domain.{Domain}
use Rattle.name_table.specs.Tables.{numbered}
use Rattle.name_table.specs.TypedLists.{names_of}
use Rattle.pddl_types.specs.declared.tables.DomainTables.{DomainTables}
use Rattle.pddl_types.specs.Pairs.{changed_heads, heads_of, schema_names}

-- the declared names of a domain, each with the number of its first place in its list, and the functions that change
pub record AreTablesOf (d : Domain) (t : DomainTables) : Type 0 where
  pub of_types : t.types ≡ numbered (names_of d.types)
  pub of_constants : t.constants ≡ numbered (names_of d.constants)
  pub of_predicates : t.predicates ≡ numbered (heads_of d.predicates)
  pub of_functions : t.functions ≡ numbered (heads_of d.functions)
  pub of_schemas : t.schemas ≡ numbered (schema_names d.schemas)
  pub of_changed : t.changed ≡ numbered (changed_heads d.schemas)
