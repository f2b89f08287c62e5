-- A search finds these, too: with them a wrong body is refused at once.
use Rattle.justfile_parse.proofs.parser.Parser.parse_source.Goals as goal

pub returns-clause-parsed : goal.returns-clause-parsed
returns-clause-parsed g c = c.parse_source.ensures.parsed

pub returns-clause-no_tree : goal.returns-clause-no_tree
returns-clause-no_tree g c = c.parse_source.ensures.no_tree

pub returns-clause-moved : goal.returns-clause-moved
returns-clause-moved g c = c.parse_source.ensures.moved

pub returns-clause-unmoved : goal.returns-clause-unmoved
returns-clause-unmoved g c = c.parse_source.ensures.unmoved
