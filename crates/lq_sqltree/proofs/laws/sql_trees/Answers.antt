use Rattle.lq_sqltree.proofs.Files.{headers_lacked, headers_missed, lines_told, lines_wrong, trees_found, trees_made}
use Rattle.lq_sqltree.proofs.laws.sql_trees.Goals as goal

pub returns-clause-files : goal.returns-clause-files
returns-clause-files c bytes node = (trees_made bytes node, trees_found bytes node)

pub returns-clause-headers : goal.returns-clause-headers
returns-clause-headers c bytes = (headers_missed bytes, headers_lacked bytes)

pub returns-clause-wrong : goal.returns-clause-wrong
returns-clause-wrong c bytes n = (lines_told bytes n, lines_wrong bytes n)
