-- The tracking tables' own names are names.
use Rattle.std.proofs.Common.{refl}
use Rattle.lq_base.specs.Name.{IsName}
use Rattle.lq_base.specs.declared.dialect.Dialect.{Dialect}
use Rattle.lq_base.specs.declared.dialect.Dialect.TheVariants.{Postgresql, Mysql}
use Rattle.lq_track.specs.Lock.{lock_column, lock_name, lock_table, lock_key_name}
use Rattle.lq_track.specs.Log.{log_column, log_name, log_table}
use Rattle.lq_track.specs.declared.lock_column.LockColumn.{LockColumn}
use Rattle.lq_track.specs.declared.lock_column.LockColumn.TheVariants as lock
use Rattle.lq_track.specs.declared.log_column.LogColumn.{LogColumn}
use Rattle.lq_track.specs.declared.log_column.LogColumn.TheVariants as log

pub log_name_is_name : (c : LogColumn) → IsName (log_name c)
unfolding log_column
log_name_is_name log.Id = refl
log_name_is_name log.Author = refl
log_name_is_name log.Filename = refl
log_name_is_name log.DateExecuted = refl
log_name_is_name log.OrderExecuted = refl
log_name_is_name log.ExecType = refl
log_name_is_name log.Md5Sum = refl
log_name_is_name log.Description = refl
log_name_is_name log.Comments = refl
log_name_is_name log.Tag = refl
log_name_is_name log.Liquibase = refl
log_name_is_name log.Contexts = refl
log_name_is_name log.Labels = refl
log_name_is_name log.DeploymentId = refl

pub lock_name_is_name : (c : LockColumn) → IsName (lock_name c)
unfolding lock_column
lock_name_is_name lock.Id = refl
lock_name_is_name lock.Locked = refl
lock_name_is_name lock.LockGranted = refl
lock_name_is_name lock.LockedBy = refl

pub log_table_is_name : IsName log_table
unfolding log_table
log_table_is_name = refl

pub lock_table_is_name : IsName lock_table
unfolding lock_table
lock_table_is_name = refl

pub lock_key_name_is_name : (d : Dialect) → IsName (lock_key_name d)
unfolding lock_key_name
lock_key_name_is_name Postgresql = refl
lock_key_name_is_name Mysql = refl
